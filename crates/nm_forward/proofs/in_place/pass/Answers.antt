use Rattle.std.proofs.Common.{◌≡◌, sym, subst}
use Rattle.nm_packet.specs.Ipv4.{fields_of, lowered, packet_octets, payload_of}
use Rattle.nm_forward.specs.declared.reaction.Reaction.TheVariants.{Pass}
use Rattle.nm_forward.specs.Reacting.{IsReaction}
use Rattle.nm_forward.specs.Reaction.{arrived, reaction}
use Rattle.nm_forward.proofs.Refusing.{passed-is}
use Rattle.nm_forward.proofs.in_place.pass.Goals as goal

pub returns-then-lower_in_place-clause-ok : goal.returns-then-lower_in_place-clause-ok
unfolding reaction
returns-then-lower_in_place-clause-ok c =
    let t = c.args.topology.now in
    let state = c.args.state.now in
    let passes = c.requires.passes in
    let y = c.lower_in_place.new.packet in
    let is : y ≡ packet_octets (lowered (fields_of c.args.packet)) (payload_of c.args.packet) = c.if-lower_in_place.ensures.lowered in
    subst (λ table. IsReaction c.args.ports.now (Pass c.args.via y) c.count.new.self (arrived t.ifaces table state c.args.packet)) c.requires.table
    (subst (λ s. IsReaction c.args.ports.now (Pass c.args.via y) s (arrived t.ifaces state.table state c.args.packet)) (sym c.count.ensures)
    (passed-is t.ifaces state.table state c.args.via c.args.ports.now c.args.packet y passes.passed passes.whole passes.row is))
