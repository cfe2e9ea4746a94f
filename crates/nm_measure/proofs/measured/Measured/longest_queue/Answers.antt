use Rattle.std.proofs.Common.{sym, ap, ◌∙◌}
use Rattle.std.specs.Option.{option_map}
use Rattle.nm_measure.proofs.Readings.{missing}
use Rattle.nm_measure.proofs.measured.Measured.longest_queue.Goals as goal

pub returns-in-Some : goal.returns-in-Some
returns-in-Some c = rw (← c.self.view_is) (λ t until m there. c.longest.ensures ∙ (m.seen.each c.args.iface c.in-Some.seen.now (sym c.get.ensures ∙ ap (option_map (λ x. x.now)) c.in-Some.is)).0.queue.packets.longest)

pub returns-in-None : goal.returns-in-None
returns-in-None c = rw (← c.self.view_is) (λ t until m there. absurd (missing t m.first m.events c.args.iface c.self.inside.interfaces.all.items m.seen there (sym c.get.ensures ∙ ap (option_map (λ x. x.now)) c.in-None.is)))
