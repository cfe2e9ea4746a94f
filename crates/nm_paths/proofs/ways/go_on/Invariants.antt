use Rattle.std.proofs.Common.{◌≡◌, ◌+◌}
use Rattle.nm_paths.specs.Walks.{behind, course}
use Rattle.nm_paths.proofs.ways.go_on.Given as goal

abbrev pub invariant-loop-left : goal.invariant-loop-left
invariant-loop-left l =
    behind l.fn.hops.items (course l.routing.topology.now l.routing.to (l.time_to_live + 1) l.fn.first)
    ≡ behind l.hops.items (course l.routing.topology.now l.routing.to l.left l.node)
