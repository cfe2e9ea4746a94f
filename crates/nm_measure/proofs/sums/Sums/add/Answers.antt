use Rattle.std.proofs.Common.{◌+◌, ◌∙◌, min, ap, refl}
use Rattle.nm_measure.specs.declared.sums.Sums.{Sums}
use Rattle.nm_measure.proofs.Added.{IsCompared, compared_added, first_differences, first_least, next_differences, next_least}
use Rattle.nm_measure.proofs.sums.Sums.add.Goals as goal
use Rattle.nm_measure.proofs.sums.Sums.add.Goals.{then-count-eq0, else-count-eq0}

pub returns-clause-added : goal.returns-clause-added
returns-clause-added c ds is h =
    let old = c.args.self.now in
    let count = c.args.count in
    let compared : IsCompared count c.args.delay c.args.self.now c.if-count-eq0.self =
    elim c.if-count-eq0.branch [
      | then-count-eq0 w ↦ record {
        least = ap (λ (s : Sums). s.least) w.self-is ∙ first_least count old.least c.args.delay w.if-count-eq0.true;
        greatest = ap (λ (s : Sums). s.greatest) w.self-is;
        total = ap (λ (s : Sums). s.total) w.self-is;
        differences = ap (λ (s : Sums). s.differences) w.self-is ∙ first_differences count old.differences old.last c.args.delay w.if-count-eq0.true;
      }
      | else-count-eq0 w ↦ record {
        least = ap (λ (s : Sums). s.least) w.self-is ∙ w.min-self.ensures ∙ next_least count old.least c.args.delay w.if-count-eq0.false;
        greatest = ap (λ (s : Sums). s.greatest) w.self-is;
        total = ap (λ (s : Sums). s.total) w.self-is;
        differences = ap (λ (s : Sums). s.differences) w.self-is ∙ w.saturating_add-self.ensures
            ∙ ap (λ n. min (old.differences + n) 340282366920938463463374607431768211455) (w.from.ensures ∙ w.abs_diff.ensures)
            ∙ next_differences count old.differences old.last c.args.delay w.if-count-eq0.false;
      }
    ] in
    let total = c.saturating_add-self-2.ensures ∙ ap (λ n. min (c.if-count-eq0.self.total + n) 340282366920938463463374607431768211455) c.from-2.ensures in
    compared_added ds c.args.self.now c.if-count-eq0.self _ count c.args.delay c.ranges.delay.fits is h compared refl c.max-self.ensures refl total refl
