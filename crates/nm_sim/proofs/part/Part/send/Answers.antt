use Rattle.std.proofs.Common.{refl, sym, subst}
use Rattle.std.specs.Option.{IfSome}
use Rattle.nm_sim.specs.Effects.{IsCopied}
use Rattle.nm_sim.specs.Part.{HasReacted, PartValue, states_in}
use Rattle.nm_sim.proofs.Takings.{has_happened, sends_on}
use Rattle.nm_sim.proofs.part.Part.send.Goals as goal

pub finish-requires-clause-copied : goal.finish-requires-clause-copied
finish-requires-clause-copied g c =
    let h = subst (λ (p : PartValue g.row.L.Denot). HasReacted g.L.EventList.pending c.args.topology.now c.args.time c.args.reaction c.requires.reacted.0 p) (sym c.self.view_is) c.requires.reacted.1 in
    subst (λ w. IfSome c.offer-sending.result.start (IsCopied w)) h.taken.wanted c.offer-sending.ensures.copied

pub finish-requires-clause-under_way : goal.finish-requires-clause-under_way
finish-requires-clause-under_way g c =
    let doing = c.requires.reacted.0 in
    let p : PartValue g.row.L.Denot = record { part = c.self.inside.part; devices = c.self.inside.devices; timeline = c.self.inside.timeline; outgoing = c.self.inside.outgoing; records = c.self.inside.records; steps = c.self.inside.steps } in
    let q : PartValue g.row.L.Denot = record { part = c.self.inside.part; devices = c.offer-sending.new.self; timeline = c.self.inside.timeline; outgoing = c.self.inside.outgoing; records = c.self.inside.records; steps = c.self.inside.steps } in
    let h = subst (λ (p : PartValue g.row.L.Denot). HasReacted g.L.EventList.pending c.args.topology.now c.args.time c.args.reaction doing p) (sym c.self.view_is) c.requires.reacted.1 in (
      doing,
      sends_on g.L.EventList.pending c.args.topology.now c.args.time c.args.reaction c.offer-sending.result doing p q (record { is_part = refl; sent = refl; outgoing = refl; steps = refl; wanted = c.offer-sending.ensures.wanted; keeping = refl }) h
          (c.offer-sending.ensures.sends (record (states_in doing.part doing.state) { node = h.node }) h.sent h.represented h.is_sent) refl refl,
    )

pub returns-clause-represents : goal.returns-clause-represents
returns-clause-represents g c = rw (← c.self.view_is) (λ doing h.
    let p : PartValue g.row.L.Denot = record { part = c.self.inside.part; devices = c.self.inside.devices; timeline = c.self.inside.timeline; outgoing = c.self.inside.outgoing; records = c.self.inside.records; steps = c.self.inside.steps } in
    let q : PartValue g.row.L.Denot = record { part = c.self.inside.part; devices = c.offer-sending.new.self; timeline = c.self.inside.timeline; outgoing = c.self.inside.outgoing; records = c.self.inside.records; steps = c.self.inside.steps } in
    c.finish.ensures.represents doing
    (sends_on g.L.EventList.pending c.args.topology.now c.args.time c.args.reaction c.offer-sending.result doing p q (record { is_part = refl; sent = refl; outgoing = refl; steps = refl; wanted = c.offer-sending.ensures.wanted; keeping = refl }) h
    (c.offer-sending.ensures.sends (record (states_in doing.part doing.state) { node = h.node }) h.sent h.represented h.is_sent) refl refl))

pub returns-clause-happened : goal.returns-clause-happened
returns-clause-happened g c = rw (← c.self.view_is) (λ doing h.
    let p : PartValue g.row.L.Denot = record { part = c.self.inside.part; devices = c.self.inside.devices; timeline = c.self.inside.timeline; outgoing = c.self.inside.outgoing; records = c.self.inside.records; steps = c.self.inside.steps } in
    has_happened g.L.EventList.pending c.args.topology.now c.args.time c.args.reaction c.offer-sending.result doing p c.offer-sending.new.self h
    (c.offer-sending.ensures.sends (record (states_in doing.part doing.state) { node = h.node }) h.sent h.represented h.is_sent) c.octets_of_start-started.result c.octets_of_start-started.ensures)
