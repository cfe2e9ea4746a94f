use Rattle.std.proofs.Common.{◌≡◌, ◌≢◌, true, false, sym, ap, ◌∙◌, subst, arith}
use Rattle.nm_model.proofs.ListLemmas.{not_some, some_inj}
use Rattle.nm_sim.specs.Network.{is_iface_here, net_of}
use Rattle.nm_sim.proofs.Outgoings.{numbered_far, outgoing_kept, outgoing_put, stays}
use Rattle.nm_sim.proofs.timeline.Timeline.schedule_arrival.Goals as goal

pub put-requires-in-Some-clause-channel : goal.put-requires-in-Some-clause-channel
put-requires-in-Some-clause-channel g c =
    let t = c.args.topology.now in
    let far : (net_of t).far_end c.args.flight.from ≡ c.args.flight.to = sym c.requires.far_end in
    let away : is_iface_here t c.args.part.now ((net_of t).far_end c.args.flight.from) ≡ false = ap (is_iface_here t c.args.part.now) far ∙ sym c.is_iface_here.ensures ∙ c.if-is_iface_here.false in
    let z = numbered_far t c.every_topology_is_a_network.ensures.network c.args.flight.from c.args.part.now c.channels_are_those_of_the_network.ensures.numbered
    c.channels_are_numbered_by_their_receivers.ensures.inverse c.requires.here.1 away c.args.flight.to far c.requires.within c.channel_of.result c.channel_of.ensures in
    let same : z.0 ≡ c.in-Some.channel = some_inj z.0 c.in-Some.channel (sym z.1 ∙ c.in-Some.is) in
    let below = z.2 in
    omega (arith, same, below, c.requires.count)

pub returns-then-is_iface_here-clause-outgoing : goal.returns-then-is_iface_here-clause-outgoing
returns-then-is_iface_here-clause-outgoing g c = λ sent h.
    let t = c.args.topology.now in
    let far : (net_of t).far_end c.args.flight.from ≡ c.args.flight.to = sym c.requires.far_end in
    let inner : is_iface_here t c.args.part.now ((net_of t).far_end c.args.flight.from) ≡ true = ap (is_iface_here t c.args.part.now) far ∙ sym c.is_iface_here.ensures ∙ c.if-is_iface_here.true in
    outgoing_kept t c.args.part.now c.args.outgoing.now sent c.args.flight.to _
    (λ k l. subst (λ p. Rattle.nm_topology.specs.Topology.receiving_iface t k ≢ p) far
    (stays t c.every_topology_is_a_network.ensures.network c.args.flight.from c.args.part.now c.channels_are_those_of_the_network.ensures.comes c.requires.here.1 inner k (omega (arith, l, c.requires.count)))) h

pub returns-in-Some-clause-outgoing : goal.returns-in-Some-clause-outgoing
returns-in-Some-clause-outgoing g c = λ sent h.
    let t = c.args.topology.now in
    let far : (net_of t).far_end c.args.flight.from ≡ c.args.flight.to = sym c.requires.far_end in
    let away : is_iface_here t c.args.part.now ((net_of t).far_end c.args.flight.from) ≡ false = ap (is_iface_here t c.args.part.now) far ∙ sym c.is_iface_here.ensures ∙ c.if-is_iface_here.false in
    let z = numbered_far t c.every_topology_is_a_network.ensures.network c.args.flight.from c.args.part.now c.channels_are_those_of_the_network.ensures.numbered
    c.channels_are_numbered_by_their_receivers.ensures.inverse c.requires.here.1 away c.args.flight.to far c.requires.within c.channel_of.result c.channel_of.ensures in
    let same : z.0 ≡ c.in-Some.channel = some_inj z.0 c.in-Some.channel (sym z.1 ∙ c.in-Some.is) in
    let below = z.2 in
    outgoing_put t c.args.part.now c.args.outgoing.now c.put-in-Some.new.self sent c.args.flight.to c.in-Some.channel (c.args.flight.due.time, c.args.flight.packet)
    (ap (Rattle.nm_topology.specs.Topology.receiving_iface t) (sym same) ∙ z.3 ∙ far) (λ k e. z.4 k (e ∙ sym far) ∙ same) (omega (arith, same, below, c.requires.count))
    c.put-in-Some.ensures.count c.put-in-Some.ensures.here c.put-in-Some.ensures.others h

pub returns-in_default-clause-outgoing : goal.returns-in_default-clause-outgoing
returns-in_default-clause-outgoing g c =
    let t = c.args.topology.now in
    let far : (net_of t).far_end c.args.flight.from ≡ c.args.flight.to = sym c.requires.far_end in
    let away : is_iface_here t c.args.part.now ((net_of t).far_end c.args.flight.from) ≡ false = ap (is_iface_here t c.args.part.now) far ∙ sym c.is_iface_here.ensures ∙ c.if-is_iface_here.false in
    let z = numbered_far t c.every_topology_is_a_network.ensures.network c.args.flight.from c.args.part.now c.channels_are_those_of_the_network.ensures.numbered
    c.channels_are_numbered_by_their_receivers.ensures.inverse c.requires.here.1 away c.args.flight.to far c.requires.within c.channel_of.result c.channel_of.ensures in
    absurd (not_some z.0 (sym c.in_default.is ∙ z.1))
