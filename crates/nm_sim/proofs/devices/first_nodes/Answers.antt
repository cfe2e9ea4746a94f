use Rattle.std.proofs.Common.{◌≡◌, ◌+◌, length, ◌∙◌, rules, arith, subst}
use Rattle.nm_forward.specs.State.{first_state}
use Rattle.nm_sim.specs.Devices.{IsNodeOf}
use Rattle.nm_sim.specs.Network.{is_node_here}
use Rattle.nm_sim.specs.Tables.{IsThere}
use Rattle.nm_sim.proofs.Tables.{all_pushed}
use Rattle.nm_sim.proofs.devices.first_nodes.Goals as goal

pub loop-number-preserved : goal.loop-number-preserved
loop-number-preserved c =
    let count : length c.push.new.self.items ≡ c.loop-number.number + 1 = search rules in
    let at : c.node_number.result ≡ length c.loop-number.nodes.items = c.node_number.ensures ∙ omega (arith, c.loop-number.invariant.0) in
    let new = subst (λ k. IsThere (is_node_here c.args.topology.now c.args.part.now k) (λ n. IsNodeOf c.args.topology.now k n (first_state c.args.topology.now k)) c.in_ok-node.node)
    at c.in_ok-node.ensures in (
      count,
      rw (c.in_ok-push.ensures.items)
          (all_pushed (λ i o. IsThere (is_node_here c.args.topology.now c.args.part.now i) (λ n. IsNodeOf c.args.topology.now i n (first_state c.args.topology.now i)) o)
          c.loop-number.nodes.items c.in_ok-node.node c.loop-number.invariant.1 new),
    )
