use Rattle.std.proofs.Common.{◌≡◌, map, take}
use Rattle.nm_paths.proofs.tables.routes_of.Given as goal

abbrev pub invariant-loop-node : goal.invariant-loop-node
invariant-loop-node l = l.all.items ≡ map (λ n. n.routes) (take l.node-index l.nodes)
