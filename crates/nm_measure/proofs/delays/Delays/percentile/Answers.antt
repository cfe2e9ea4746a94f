use Rattle.std.proofs.Common.{◌∙◌, ap, subst, sym}
use Rattle.nm_base.specs.Count.{saturated}
use Rattle.nm_measure.specs.Added.{ShowsPercentile}
use Rattle.nm_measure.proofs.Percentiles.{shows_percentile}
use Rattle.nm_measure.proofs.delays.Delays.percentile.Goals as goal

pub returns : goal.returns
returns c ds h few share =
    let is_rounded = c.args.self.now.spread.is_rounded in
    subst (ShowsPercentile ds is_rounded c.args.thousandths) (sym c.max.ensures)
    (shows_percentile ds is_rounded c.args.thousandths c.percentile.result c.args.self.now.sums.least h.added.sums.least h.added.sums.fits share
    (λ none. c.percentile.ensures.none (h.added.count ∙ ap saturated none)) (λ some. c.percentile.ensures.some ds (h.added.spread few) some share))
