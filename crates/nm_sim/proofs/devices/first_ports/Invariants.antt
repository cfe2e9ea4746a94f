use Rattle.std.proofs.Common.{◌≡◌, ◌≤◌, length}
use Rattle.nm_base.specs.Wanted.{is_wanted}
use Rattle.nm_model.specs.Port.{idle_port}
use Rattle.nm_sim.specs.Devices.{IsPortOf}
use Rattle.nm_sim.specs.Network.{is_iface_here}
use Rattle.nm_sim.specs.Tables.{AllHere, AllSome}
use Rattle.nm_sim.proofs.devices.first_ports.Given as goal

abbrev pub invariant-loop-number : goal.invariant-loop-number
invariant-loop-number l =
    (length l.ports.items ≡ l.number)
    × AllHere (is_iface_here l.topology l.part) (λ i w. IsPortOf l.topology i w idle_port) l.ports.items
    × AllSome (λ i w. 1 ≤ w.room) l.ports.items
    × AllSome (λ i w. w.recorded ≡ is_wanted l.wanted i) l.ports.items
