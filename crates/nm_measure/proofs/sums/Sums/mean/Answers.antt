use Rattle.std.proofs.Common.{◌∙◌}
use Rattle.nm_measure.proofs.Added.{mean_added}
use Rattle.nm_measure.proofs.sums.Sums.mean.Goals as goal

pub returns : goal.returns
returns c ds is h few = c.mean_of.ensures ∙ mean_added ds c.args.self.now c.args.count is h few
