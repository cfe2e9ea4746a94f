use Rattle.std.proofs.Common.{◌≡◌, ◌<◌, length, Some, slice_get, sym, ap, ◌∙◌, subst, rules}
use Rattle.std.proofs.lemmas.Option.{slice_get_read}
use Rattle.nm_base.specs.declared.event.Origin.TheVariants.{Source}
use Rattle.nm_traffic.specs.Source.{source_of}
use Rattle.nm_sim.specs.Devices.{DevicesValue, DevicesRepresentSome}
use Rattle.nm_sim.specs.Network.{is_source_here}
use Rattle.nm_sim.specs.Tables.{IsMember}
use Rattle.nm_sim.specs.contracts.devices.Devices.{the_view}
use Rattle.nm_sim.specs.Effects.{ReactsWith}
use Rattle.nm_sim.proofs.Networks.{source_is}
use Rattle.nm_sim.proofs.Represents.{source_node}
use Rattle.nm_sim.proofs.Tables.{at_there, member_within}
use Rattle.nm_sim.proofs.devices.Devices.react_to_source.Goals as goal

pub react-requires-clause-node : goal.react-requires-clause-node
react-requires-clause-node c =
    let z = c.requires.represented in
    source_node c.args.topology.now z.0 c.args.self.now z.1 c.node_of_source-node.result c.node_of_source-node.ensures.there c.args.source c.requires.place c.node_of_source-node.ensures.node

pub returns-clause-follows : goal.returns-clause-follows
returns-clause-follows c =
    let z : DevicesRepresentSome c.args.topology.now (the_view c.self.inside) = subst (λ d. DevicesRepresentSome c.args.topology.now d) (sym c.self.view_is) c.requires.represented in
    let member = subst (λ (v : DevicesValue). IsMember (slice_get v.sources c.args.source)) (sym c.self.view_is) c.requires.place in
    let within : c.args.source < length c.self.inside.sources.items = member_within c.self.inside.sources.items c.args.source member in
    let here : slice_get c.self.inside.sources.items c.args.source ≡ Some c.index-2.result.now = search (rules, slice_get_read) in
    let at = at_there (is_source_here c.args.topology.now z.0.part) (λ j x. source_of c.args.topology.now j ≡ Some x) c.self.inside.sources.items z.1.sources c.args.source c.in-Some.state (here ∙ ap Some c.in-Some.is) in
    c.in_ok-follows.ensures ∙ sym (source_is c.args.topology.now c.args.source _ c.in-Some.state at.1)

pub returns-clause-reacts : goal.returns-clause-reacts
returns-clause-reacts c = λ states s.
    subst (λ v. ReactsWith c.args.topology.now states v (Source c.args.source, c.args.packet.now) c.react.new.self c.in_ok-reaction.reaction)
    (sym c.node_of_source-node.ensures.node) (c.in_ok-reaction.ensures.reacts states s)
