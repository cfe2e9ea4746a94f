use Rattle.std.proofs.Common.{sym, ap, ◌∙◌}
use Rattle.std.specs.Option.{option_map}
use Rattle.nm_measure.proofs.Readings.{missing}
use Rattle.nm_measure.proofs.measured.Measured.recent_queue.Goals as goal

pub returns-in-Some-clause-packets : goal.returns-in-Some-clause-packets
returns-in-Some-clause-packets c = rw (← c.self.view_is) (λ t first recent there. c.recent.ensures ∙ (recent.seen.each c.args.iface c.in-Some.seen.now (sym c.get.ensures ∙ ap (option_map (λ x. x.now)) c.in-Some.is)).0.queue.packets.recent)

pub returns-in-Some-clause-octets : goal.returns-in-Some-clause-octets
returns-in-Some-clause-octets c = rw (← c.self.view_is) (λ t first recent there. c.recent-in-Some.ensures ∙ (recent.seen.each c.args.iface c.in-Some.seen.now (sym c.get.ensures ∙ ap (option_map (λ x. x.now)) c.in-Some.is)).0.queue.octets.recent)

pub returns-in-None-clause-packets : goal.returns-in-None-clause-packets
returns-in-None-clause-packets c = rw (← c.self.view_is) (λ t first recent there. absurd (missing t first c.self.inside.part.steps c.args.iface c.self.inside.interfaces.all.items recent.seen there (sym c.get.ensures ∙ ap (option_map (λ x. x.now)) c.in-None.is)))

pub returns-in-None-clause-octets : goal.returns-in-None-clause-octets
returns-in-None-clause-octets c = rw (← c.self.view_is) (λ t first recent there. absurd (missing t first c.self.inside.part.steps c.args.iface c.self.inside.interfaces.all.items recent.seen there (sym c.get.ensures ∙ ap (option_map (λ x. x.now)) c.in-None.is)))
