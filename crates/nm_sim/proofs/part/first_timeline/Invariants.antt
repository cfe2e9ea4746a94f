use Rattle.std.proofs.Common.{◌≡◌, length, replicate}
use Rattle.std.specs.FinMap.{empty}
use Rattle.nm_model.specs.EventList.{schedule}
use Rattle.nm_model.specs.Run.{source_events}
use Rattle.nm_sim.specs.Network.{here_of, net_of}
use Rattle.nm_sim.proofs.part.first_timeline.Given as goal

abbrev pub invariant-loop-number : goal.invariant-loop-number
invariant-loop-number g l =
    (g.L.EventList.pending l.timeline.events ≡ schedule (here_of l.topology l.part) (source_events (net_of l.topology) l.number) empty)
    × (l.timeline.sent ≡ replicate (length l.topology.ifaces) 0)
