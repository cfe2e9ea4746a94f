use Rattle.std.proofs.Common.{◌≡◌, ◌≤◌, ◌+◌, length, ◌∙◌, rules, arith, subst}
use Rattle.std.specs.Option.{IfSome}
use Rattle.nm_base.specs.Wanted.{is_wanted}
use Rattle.nm_model.specs.Port.{idle_port}
use Rattle.nm_sim.specs.Devices.{IsPortOf}
use Rattle.nm_sim.specs.Network.{is_iface_here}
use Rattle.nm_sim.specs.Tables.{IsThere}
use Rattle.nm_sim.proofs.Tables.{all_pushed}
use Rattle.nm_sim.proofs.devices.first_ports.Goals as goal

pub loop-number-preserved : goal.loop-number-preserved
loop-number-preserved c =
    let count : length c.push.new.self.items ≡ c.loop-number.number + 1 = search rules in
    let at : c.iface_number.result ≡ length c.loop-number.ports.items = c.iface_number.ensures ∙ omega (arith, c.loop-number.invariant.0) in
    let new = subst (λ k. IsThere (is_iface_here c.args.topology.now c.args.part.now k) (λ w. IsPortOf c.args.topology.now k w idle_port) c.in_ok-port.port)
    at c.in_ok-port.ensures.port in (
      count,
      rw (c.in_ok-push.ensures.items)
          (all_pushed (λ i o. IsThere (is_iface_here c.args.topology.now c.args.part.now i) (λ w. IsPortOf c.args.topology.now i w idle_port) o)
          c.loop-number.ports.items c.in_ok-port.port c.loop-number.invariant.1 new),
      rw (c.in_ok-push.ensures.items)
          (all_pushed (λ i o. IfSome o (λ w. 1 ≤ w.room)) c.loop-number.ports.items c.in_ok-port.port c.loop-number.invariant.2 c.in_ok-port.ensures.room),
      rw (c.in_ok-push.ensures.items)
          (all_pushed (λ i o. IfSome o (λ w. w.recorded ≡ is_wanted c.args.wanted.now i)) c.loop-number.ports.items c.in_ok-port.port c.loop-number.invariant.3
          (subst (λ k. IfSome c.in_ok-port.port (λ w. w.recorded ≡ is_wanted c.args.wanted.now k)) at c.in_ok-port.ensures.recorded)),
    )
