use Rattle.std.proofs.Common.{◌≡◌, ◌<◌, length, Some, slice_get, slice_set, refl, sym, ap, ◌∙◌, subst, rules}
use Rattle.std.specs.Option.{IfSome}
use Rattle.std.proofs.lemmas.Option.{slice_get_read}
use Rattle.nm_iface.specs.PortValue.{PortValue}
use Rattle.nm_sim.specs.contracts.devices.Devices.{the_view}
use Rattle.nm_sim.specs.Devices.{DevicesValue}
use Rattle.nm_sim.specs.Effects.{IsBusy}
use Rattle.nm_sim.proofs.Doings.{busy_member, completes_by}
use Rattle.nm_sim.specs.Effects.{IsCopied}
use Rattle.nm_sim.proofs.Sendings.{copied_at}
use Rattle.nm_sim.proofs.Sound.{sound_changed}
use Rattle.nm_sim.proofs.Tables.{member_within}
use Rattle.nm_sim.proofs.devices.Devices.complete.Goals as goal

pub invariant_of-self-2 : goal.invariant_of-self-2
invariant_of-self-2 c =
    let member = busy_member _ (subst (λ (v : DevicesValue). IsBusy (slice_get v.ports c.args.iface)) (sym c.self.view_is) c.requires.busy) in
    let within : c.args.iface < length c.self.inside.ports.items = member_within c.self.inside.ports.items c.args.iface member in
    let here : slice_get c.self.inside.ports.items c.args.iface ≡ Some c.index_mut.result.now = search (rules, slice_get_read) in
    sound_changed c.self.inside.wanted c.self.inside.used c.self.inside.ports.items c.self.invariant c.args.iface c.index.result c.index.ensures
    c.in-Some.port c.done-start.new.self (here ∙ ap Some c.in-Some.is) (ap (λ (p : PortValue). p.recorded) c.done-start.ensures.port) c.done-start.ensures.room

pub returns : goal.returns
returns c = rw (← c.self.view_is) record {
  does = λ states number s.
      let member = busy_member _ (subst (λ (v : DevicesValue). IsBusy (slice_get v.ports c.args.iface)) (sym c.self.view_is) c.requires.busy) in
      let within : c.args.iface < length c.self.inside.ports.items = member_within c.self.inside.ports.items c.args.iface member in
      let here : slice_get c.self.inside.ports.items c.args.iface ≡ Some c.index_mut.result.now = search (rules, slice_get_read) in
      let after : DevicesValue = record { nodes = c.self.inside.nodes.items; ports = slice_set c.self.inside.ports.items c.index.result (Some c.done-start.new.self); sources = c.self.inside.sources.items; used = c.self.inside.used; wanted = c.self.inside.wanted } in
      completes_by c.args.topology.now states (the_view c.self.inside) after s c.args.time c.args.iface number c.in-Some.port c.done-start.new.self.room c.done-start.result (here ∙ ap Some c.in-Some.is)
      refl (λ k. slice_set c.self.inside.ports.items (c.index.ensures k) (Some (c.done-start.ensures.port k))) refl c.done-start.ensures.packet c.done-start.ensures.start _ refl c.transmission_at.ensures refl;
  copied =
      let member = busy_member _ (subst (λ (v : DevicesValue). IsBusy (slice_get v.ports c.args.iface)) (sym c.self.view_is) c.requires.busy) in
      let within : c.args.iface < length c.self.inside.ports.items = member_within c.self.inside.ports.items c.args.iface member in
      let here : slice_get c.self.inside.ports.items c.args.iface ≡ Some c.index_mut.result.now = search (rules, slice_get_read) in
      let recorded = (c.self.invariant c.args.iface (Some c.in-Some.port) (here ∙ ap Some c.in-Some.is)).1 in
      subst (λ o. IfSome o (IsCopied c.self.inside.wanted)) (sym c.transmission_at.ensures)
      (copied_at c.self.inside.wanted c.args.iface c.done-start.result (λ e. c.done-start.ensures.copied (recorded ∙ e)));
  wanted = refl;
}
