use Rattle.std.proofs.Common.{◌≡◌, List, ℕ, length, ap, sym, ◌∙◌, subst}
use Rattle.nm_packet.specs.Ipv4.{IsPacket}
use Rattle.nm_iface.specs.PortValue.{IsRefusedAt}
use Rattle.nm_forward.specs.declared.reaction.Reaction.TheVariants.{Refused}
use Rattle.nm_forward.specs.declared.row.Row.TheVariants.{Forward}
use Rattle.nm_forward.specs.Row.{row_counter}
use Rattle.nm_forward.specs.State.{state_counted}
use Rattle.nm_forward.specs.Reaction.{followed}
use Rattle.nm_forward.specs.Reacting.{IsReaction}
use Rattle.nm_forward.proofs.Refusing.{refused-is}
use Rattle.nm_forward.proofs.reaction.follow.Goals as goal

pub returns-in-Some-clause-ok : goal.returns-in-Some-clause-ok
returns-in-Some-clause-ok c =
    let p = c.args.packet.now in
    let state = c.args.state.now in
    let ports = c.args.ports.now in
    let via = c.in-Some.via in
    let is : IsPacket p = c.octets.ensures.packet in
    let drops : (y : List ℕ) → length y ≡ length p → IsRefusedAt ports via y =
    λ y e. c.in-Some.ensures.1 y (e ∙ ap length (sym c.octets.ensures.value)) in
    let counted = c.count.ensures
    ∙ ap (λ k. state_counted k state) (c.counter.ensures ∙ ap row_counter c.in-Some.ensures.0) in
    let is_so = refused-is c.args.topology.now.ifaces state.table state via ports p is drops in
    subst (λ s. IsReaction ports (Refused via) s
    (followed c.args.topology.now.ifaces state.table state p c.args.row.now)) (sym counted)
    (subst (λ r. IsReaction ports (Refused via) (state_counted (row_counter (Forward via)) state)
    (followed c.args.topology.now.ifaces state.table state p r)) (sym c.in-Some.ensures.0) is_so)
