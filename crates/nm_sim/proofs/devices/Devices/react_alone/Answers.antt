use Rattle.std.proofs.Common.{◌≡◌, ◌<◌, length, Some, slice_get, slice_set, refl, sym, ap, ◌∙◌, subst, rules}
use Rattle.std.proofs.lemmas.Option.{slice_get_read}
use Rattle.std.proofs.lemmas.Result.{IfOk-weaker}
use Rattle.nm_forward.specs.Reaction.{reaction}
use Rattle.nm_forward.specs.Row.{arrival_row, row_counter}
use Rattle.nm_forward.specs.Reacting.{IsReaction, IsSent}
use Rattle.nm_sim.specs.contracts.devices.Devices.{the_view}
use Rattle.nm_sim.specs.Devices.{DevicesValue, DevicesRepresentSome}
use Rattle.nm_sim.specs.Tables.{IsMember}
use Rattle.nm_base.specs.declared.event.Origin.TheVariants.{Arrival}
use Rattle.nm_sim.proofs.Tables.{member_within, not_member}
use Rattle.nm_sim.proofs.Reactings.{node_is, reacts_with, sends_by_own, table_is}
use Rattle.nm_sim.proofs.devices.Devices.react_alone.Goals as goal

pub react_in_place-requires : goal.react_in_place-requires
react_in_place-requires c =
    let z : DevicesRepresentSome c.args.topology.now (the_view c.self.inside) = subst (λ d. DevicesRepresentSome c.args.topology.now d) (sym c.self.view_is) c.requires.represented in
    let member = subst (λ (v : DevicesValue). IsMember (slice_get v.nodes c.args.node)) (sym c.self.view_is) c.requires.node in
    let within : c.args.node < length c.self.inside.nodes.items = member_within c.self.inside.nodes.items c.args.node member in
    let here : slice_get c.self.inside.nodes.items c.args.node ≡ Some c.index_mut.result.now = search (rules, slice_get_read) in
    table_is c.args.topology.now z.0 (the_view c.self.inside) (the_view c.self.inside) z.1 c.args.node c.in-Some.state (here ∙ ap Some c.in-Some.is)

pub returns-clause-own : goal.returns-clause-own
returns-clause-own c =
    let z : DevicesRepresentSome c.args.topology.now (the_view c.self.inside) = subst (λ d. DevicesRepresentSome c.args.topology.now d) (sym c.self.view_is) c.requires.represented in
    let member = subst (λ (v : DevicesValue). IsMember (slice_get v.nodes c.args.node)) (sym c.self.view_is) c.requires.node in
    let within : c.args.node < length c.self.inside.nodes.items = member_within c.self.inside.nodes.items c.args.node member in
    let here : slice_get c.self.inside.nodes.items c.args.node ≡ Some c.index_mut.result.now = search (rules, slice_get_read) in
    IfOk-weaker c.react_in_place.result _ _ (λ h q. sends_by_own c.args.topology.now z.0 (the_view c.self.inside) (the_view c.self.inside) z.1 c.args.node c.in-Some.state (here ∙ ap Some c.in-Some.is)
    (Arrival c.args.iface) c.args.packet h.reaction c.a_node_sends_by_its_own_interfaces.ensures
    (subst (λ z. IsSent z h.reaction (reaction c.args.topology.now c.in-Some.state.table.node c.in-Some.state (Arrival c.args.iface) c.args.packet).1) c.deref.ensures.value q.1)) c.react_in_place.ensures.ok

pub returns-clause-reacts : goal.returns-clause-reacts
returns-clause-reacts c = rw (← c.self.view_is) (λ states s.
    let member = subst (λ (v : DevicesValue). IsMember (slice_get v.nodes c.args.node)) (sym c.self.view_is) c.requires.node in
    let within : c.args.node < length c.self.inside.nodes.items = member_within c.self.inside.nodes.items c.args.node member in
    let here : slice_get c.self.inside.nodes.items c.args.node ≡ Some c.index_mut.result.now = search (rules, slice_get_read) in
    let after : DevicesValue = record { nodes = slice_set c.self.inside.nodes.items c.index.result (Some c.react_in_place.new.state); ports = c.self.inside.ports.items; sources = c.self.inside.sources.items; used = c.self.inside.used; wanted = c.self.inside.wanted } in
    IfOk-weaker c.react_in_place.result _ _ (λ h q. reacts_with c.args.topology.now states (the_view c.self.inside) after s c.args.node c.in-Some.state (here ∙ ap Some c.in-Some.is)
    c.react_in_place.new.state (Arrival c.args.iface) c.args.packet h.reaction
    (subst (λ z. IsReaction z h.reaction c.react_in_place.new.state (reaction c.args.topology.now c.in-Some.state.table.node c.in-Some.state (Arrival c.args.iface) c.args.packet)) c.deref.ensures.value q) (ap (λ k. slice_set c.self.inside.nodes.items k (Some c.react_in_place.new.state)) c.index.ensures) refl refl) c.react_in_place.ensures.ok)

pub returns-clause-counter : goal.returns-clause-counter
returns-clause-counter c = rw (← c.self.view_is) (λ states s.
    let member = subst (λ (v : DevicesValue). IsMember (slice_get v.nodes c.args.node)) (sym c.self.view_is) c.requires.node in
    let within : c.args.node < length c.self.inside.nodes.items = member_within c.self.inside.nodes.items c.args.node member in
    let here : slice_get c.self.inside.nodes.items c.args.node ≡ Some c.index_mut.result.now = search (rules, slice_get_read) in
    let is = node_is c.args.topology.now states (the_view c.self.inside) (the_view c.self.inside) s c.args.node c.in-Some.state (here ∙ ap Some c.in-Some.is) in
    IfOk-weaker c.react_in_place.result _ _ (λ h q. q ∙ ap (λ table. row_counter (arrival_row table c.args.packet)) is.1.1) c.react_in_place.ensures.counter)

pub returns-in_default-clause-counter : goal.returns-in_default-clause-counter
returns-in_default-clause-counter c = λ states s.
    let member = subst (λ (v : DevicesValue). IsMember (slice_get v.nodes c.args.node)) (sym c.self.view_is) c.requires.node in
    let within : c.args.node < length c.self.inside.nodes.items = member_within c.self.inside.nodes.items c.args.node member in
    let here : slice_get c.self.inside.nodes.items c.args.node ≡ Some c.index_mut.result.now = search (rules, slice_get_read) in
    absurd (not_member c.index_mut.result.now c.in_default.not-Some (subst IsMember here member))
