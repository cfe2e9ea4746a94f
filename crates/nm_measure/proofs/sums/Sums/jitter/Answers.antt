use Rattle.std.proofs.Common.{◌∙◌, ap, ◌/◌}
use Rattle.nm_base.specs.Count.{saturated}
use Rattle.nm_measure.proofs.Added.{jitter_added}
use Rattle.nm_measure.proofs.sums.Sums.jitter.Goals as goal

pub returns : goal.returns
returns c ds is h few =
    c.mean_of.ensures ∙ ap (λ n. saturated (c.args.self.now.differences / n)) c.saturating_sub.ensures
    ∙ jitter_added ds c.args.self.now c.args.count is h few
