use Rattle.std.proofs.Common.{◌≡◌, ◌<◌, true, length, Some, slice_get, slice_set, refl, sym, ap, ◌∙◌, subst, rules, arith}
use Rattle.std.proofs.lemmas.Option.{slice_get_read}
use Rattle.nm_model.specs.Port.{is_refused}
use Rattle.nm_model.proofs.ListLemmas.{some_inj}
use Rattle.nm_iface.specs.PortValue.{PortValue, has_room}
use Rattle.nm_sim.specs.contracts.devices.Devices.{the_view}
use Rattle.nm_sim.specs.Devices.{DevicesValue}
use Rattle.nm_sim.specs.Tables.{IsMember}
use Rattle.nm_sim.proofs.Sendings.{drops_by}
use Rattle.nm_sim.proofs.Sound.{sound_changed}
use Rattle.nm_sim.proofs.Tables.{member_within}
use Rattle.nm_sim.proofs.devices.Devices.drop_at.Goals as goal

pub invariant_of-self-2 : goal.invariant_of-self-2
invariant_of-self-2 c =
    let member = subst (λ (v : DevicesValue). IsMember (slice_get v.ports c.args.iface)) (sym c.self.view_is) c.requires in
    let within : c.args.iface < length c.self.inside.ports.items = member_within c.self.inside.ports.items c.args.iface member in
    let here : slice_get c.self.inside.ports.items c.args.iface ≡ Some c.index_mut.result.now = search (rules, slice_get_read) in
    let room = ap (λ (p : PortValue). p.room) c.count_drop.ensures in
    sound_changed c.self.inside.wanted c.self.inside.used c.self.inside.ports.items c.self.invariant c.args.iface c.index.result c.index.ensures
    c.in-Some.port c.count_drop.new.self (here ∙ ap Some c.in-Some.is) (ap (λ (p : PortValue). p.recorded) c.count_drop.ensures) (omega (arith, room))

pub returns-clause-drops : goal.returns-clause-drops
returns-clause-drops c = rw (← c.self.view_is) (λ states time x s r.
    let member = subst (λ (v : DevicesValue). IsMember (slice_get v.ports c.args.iface)) (sym c.self.view_is) c.requires in
    let within : c.args.iface < length c.self.inside.ports.items = member_within c.self.inside.ports.items c.args.iface member in
    let here : slice_get c.self.inside.ports.items c.args.iface ≡ Some c.index_mut.result.now = search (rules, slice_get_read) in
    let is : slice_get c.self.inside.ports.items c.args.iface ≡ Some (Some c.in-Some.port) = here ∙ ap Some c.in-Some.is in
    let same : r.0 ≡ c.in-Some.port = some_inj r.0 c.in-Some.port (some_inj (Some r.0) (Some c.in-Some.port) (sym r.1 ∙ is)) in
    let refused : is_refused (has_room c.in-Some.port.limit) x c.in-Some.port.busy ≡ true = subst (λ (w : PortValue). is_refused (has_room w.limit) x w.busy ≡ true) same r.2 in
    let after : DevicesValue = record { nodes = c.self.inside.nodes.items; ports = slice_set c.self.inside.ports.items c.index.result (Some c.count_drop.new.self); sources = c.self.inside.sources.items; used = c.self.inside.used; wanted = c.self.inside.wanted } in
    drops_by c.args.topology.now states (the_view c.self.inside) after s time c.args.iface x c.in-Some.port is refused
    refl (λ k. slice_set c.self.inside.ports.items (c.index.ensures k) (Some (c.count_drop.ensures k))) refl)
