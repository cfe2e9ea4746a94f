use Rattle.std.proofs.Common.{sym, ap, ◌∙◌}
use Rattle.std.specs.Option.{option_map}
use Rattle.nm_measure.proofs.Readings.{missing, share_by}
use Rattle.nm_measure.proofs.measured.Measured.busy_share.Goals as goal

pub returns-in-Some-clause-share : goal.returns-in-Some-clause-share
returns-in-Some-clause-share c = rw (← c.self.view_is) (λ t until m there. c.share.ensures.value ∙ share_by t until _ m c.args.iface c.in-Some.seen.now (sym c.get.ensures ∙ ap (option_map (λ x. x.now)) c.in-Some.is))

pub returns-in-None-clause-share : goal.returns-in-None-clause-share
returns-in-None-clause-share c = rw (← c.self.view_is) (λ t until m there. absurd (missing t m.first m.events c.args.iface c.self.inside.interfaces.all.items m.seen there (sym c.get.ensures ∙ ap (option_map (λ x. x.now)) c.in-None.is)))
