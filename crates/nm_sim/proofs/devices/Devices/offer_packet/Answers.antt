use Rattle.std.proofs.Common.{◌≡◌, ◌≤◌, ◌<◌, length, Some, slice_get, slice_set, refl, sym, ap, ◌∙◌, subst, rules}
use Rattle.std.specs.Option.{IfSome}
use Rattle.std.proofs.lemmas.Option.{slice_get_read}
use Rattle.nm_iface.specs.PortValue.{PortValue}
use Rattle.nm_iface.specs.Offers.{HasCopy, IsTransmission, transmitted_packet}
use Rattle.nm_sim.specs.contracts.devices.Devices.{the_view}
use Rattle.nm_sim.specs.Effects.{IsCopied}
use Rattle.nm_sim.specs.Devices.{DevicesValue}
use Rattle.nm_sim.specs.Tables.{AllSome, IsMember}
use Rattle.nm_sim.proofs.Sendings.{copied_at, sends_by}
use Rattle.nm_sim.proofs.Sound.{sound_used}
use Rattle.nm_sim.proofs.Tables.{member_within}
use Rattle.nm_sim.proofs.devices.Devices.offer_packet.Goals as goal

pub offer-offered-requires-clause-room : goal.offer-offered-requires-clause-room
offer-offered-requires-clause-room c =
    let room = subst (λ (v : DevicesValue). AllSome (λ i w. 1 ≤ w.room) v.ports) (sym c.self.view_is) c.requires.room in
    let member = subst (λ (v : DevicesValue). IsMember (slice_get v.ports c.args.iface)) (sym c.self.view_is) c.requires.own in
    let within : c.args.iface < length c.self.inside.ports.items = member_within c.self.inside.ports.items c.args.iface member in
    let here : slice_get c.self.inside.ports.items c.args.iface ≡ Some c.index_mut.result.now = search (rules, slice_get_read) in
    room c.args.iface (Some c.in-Some.port) (here ∙ ap Some c.in-Some.is)

pub invariant_of-self-2 : goal.invariant_of-self-2
invariant_of-self-2 c =
    let room = subst (λ (v : DevicesValue). AllSome (λ i w. 1 ≤ w.room) v.ports) (sym c.self.view_is) c.requires.room in
    let member = subst (λ (v : DevicesValue). IsMember (slice_get v.ports c.args.iface)) (sym c.self.view_is) c.requires.own in
    let within : c.args.iface < length c.self.inside.ports.items = member_within c.self.inside.ports.items c.args.iface member in
    let here : slice_get c.self.inside.ports.items c.args.iface ≡ Some c.index_mut.result.now = search (rules, slice_get_read) in
    sound_used c.self.inside.wanted c.self.inside.used c.self.inside.ports.items c.self.invariant c.args.iface c.index.result c.index.ensures
    c.in-Some.port c.offer-offered.new.self (here ∙ ap Some c.in-Some.is) (ap (λ (p : PortValue). p.recorded) c.offer-offered.ensures.port) room

pub returns : goal.returns
returns c = rw (← c.self.view_is) record {
  sends = λ states s.
      let room = subst (λ (v : DevicesValue). AllSome (λ i w. 1 ≤ w.room) v.ports) (sym c.self.view_is) c.requires.room in
      let member = subst (λ (v : DevicesValue). IsMember (slice_get v.ports c.args.iface)) (sym c.self.view_is) c.requires.own in
      let within : c.args.iface < length c.self.inside.ports.items = member_within c.self.inside.ports.items c.args.iface member in
      let here : slice_get c.self.inside.ports.items c.args.iface ≡ Some c.index_mut.result.now = search (rules, slice_get_read) in
      let after : DevicesValue = record { nodes = c.self.inside.nodes.items; ports = slice_set c.self.inside.ports.items c.index.result (Some c.offer-offered.new.self); sources = c.self.inside.sources.items; used = Some c.args.iface; wanted = c.self.inside.wanted } in
      sends_by c.args.topology.now states (the_view c.self.inside) after s c.args.time c.args.iface c.args.twin.packet c.in-Some.port c.offer-offered.new.self.room c.started-start.result (here ∙ ap Some c.in-Some.is)
      refl (λ k. slice_set c.self.inside.ports.items (c.index.ensures k) (Some (c.offer-offered.ensures.port k))) refl (ap transmitted_packet c.started-start.ensures ∙ c.offer-offered.ensures.packet) (subst (λ o. IfSome o (IsTransmission c.in-Some.port.rate c.in-Some.port.delay c.args.time c.args.twin.packet)) (sym c.started-start.ensures) c.offer-offered.ensures.start)
      _ c.transmission_at.ensures (c.offering-offering.ensures ∙ c.offer-offered.ensures.offering c.args.iface);
  copied = subst (λ o. IfSome o (IsCopied c.self.inside.wanted)) (sym c.transmission_at.ensures) (copied_at c.self.inside.wanted c.args.iface c.started-start.result (λ e. subst (λ o. IfSome o HasCopy) (sym c.started-start.ensures) c.offer-offered.ensures.copied));
  wanted = refl;
}
