use Rattle.std.proofs.Common.{◌≡◌, length}
use Rattle.nm_forward.specs.State.{first_state}
use Rattle.nm_sim.specs.Devices.{IsNodeOf}
use Rattle.nm_sim.specs.Network.{is_node_here}
use Rattle.nm_sim.specs.Tables.{AllHere}
use Rattle.nm_sim.proofs.devices.first_nodes.Given as goal

abbrev pub invariant-loop-number : goal.invariant-loop-number
invariant-loop-number l =
    (length l.nodes.items ≡ l.number)
    × AllHere (is_node_here l.topology l.part) (λ i n. IsNodeOf l.topology i n (first_state l.topology i)) l.nodes.items
