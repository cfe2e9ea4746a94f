use Rattle.std.proofs.Common.{◌≡◌, Some, length}
use Rattle.nm_traffic.specs.Source.{source_of}
use Rattle.nm_sim.specs.Network.{is_source_here}
use Rattle.nm_sim.specs.Tables.{AllHere}
use Rattle.nm_sim.proofs.devices.first_sources.Given as goal

abbrev pub invariant-loop-number : goal.invariant-loop-number
invariant-loop-number l =
    (length l.sources.items ≡ l.number)
    × AllHere (is_source_here l.topology l.part) (λ j s. source_of l.topology j ≡ Some s) l.sources.items
