use Rattle.std.proofs.Common.{◌≡◌, ◌+◌, ◌<◌, ◌≤◌, ℕ, List, take, true, length, get_or, ap, ◌∙◌, sym, subst, arith}
use Rattle.std.proofs.lemmas.List.Sums.{sum_by_more}
use Rattle.nm_measure.specs.Spread.{rank_of, times_of}
use Rattle.nm_measure.specs.declared.spread.Row.{Row}
use Rattle.nm_measure.proofs.Rows.{all_passed, climbs, percentile_at, rank_within, spread_count, sum_reached}
use Rattle.nm_measure.proofs.spread.Spread.percentile.Goals as goal

pub returns-then-passed-rank-clause-some : goal.returns-then-passed-rank-clause-some
returns-then-passed-rank-clause-some c ds h some share =
    let rows = c.args.self.now.rows.items in
    let i = c.loop-row.row-index in
    let none : Row = record { delay = 0; times = 0 } in
    let count = spread_count ds rows c.args.self.now.is_rounded h in
    let rank : c.rank_of-rank.result ≡ rank_of (length ds) c.args.thousandths =
    c.rank_of-rank.ensures.exact share ∙ ap (λ n. rank_of n c.args.thousandths) (sym c.args.self.now.all ∙ count) in
    let low : i < length rows = subst (λ (l : List Row). i < length l) c.loop-row.invariant.all c.loop-row-test.true in
    let few : times_of (λ d. true) (take i rows) < c.rank_of-rank.result = subst (λ n. n < c.rank_of-rank.result) c.loop-row.invariant.passed c.loop-row.invariant.few in
    let next : times_of (λ d. true) (take (i + 1) rows) ≡ c.loop-row.passed + (get_or c.deref-row-items.result.now i none).times =
    sum_by_more (λ (r : Row). r.times) rows i none low ∙ ap (λ n. n + (get_or rows i none).times) (sym c.loop-row.invariant.passed)
    ∙ ap (λ (l : List Row). c.loop-row.passed + (get_or l i none).times) (sym c.loop-row.invariant.all) in
    let reach : c.rank_of-rank.result ≤ times_of (λ d. true) (take (i + 1) rows) =
    sum_reached c.rank_of-rank.result c.loop-row.passed (get_or c.deref-row-items.result.now i none).times _
    (subst (λ n. c.rank_of-rank.result ≤ n) c.saturating_add-passed.ensures c.if-passed-rank.true) next in
    rw c.loop-row.invariant.all (percentile_at ds rows c.args.self.now.is_rounded c.args.thousandths i none h (climbs c.args.self.now.rows.items c.args.self.now.rise) low
    (subst (λ n. times_of (λ d. true) (take i rows) < n) rank few) (subst (λ n. n ≤ times_of (λ d. true) (take (i + 1) rows)) rank reach))

pub returns-clause-some : goal.returns-clause-some
returns-clause-some c ds h some share =
    let rows = c.args.self.now.rows.items in
    let count = spread_count ds rows c.args.self.now.is_rounded h in
    let rank : c.rank_of-rank.result ≡ rank_of (length ds) c.args.thousandths =
    c.rank_of-rank.ensures.exact share ∙ ap (λ n. rank_of n c.args.thousandths) (sym c.args.self.now.all ∙ count) in
    let past : length rows ≤ c.loop-row.row-index = subst (λ (l : List Row). length l ≤ c.loop-row.row-index) c.loop-row.invariant.all c.loop-row-test.false in
    let passed : c.loop-row.passed ≡ length ds = c.loop-row.invariant.passed ∙ all_passed rows c.loop-row.row-index past ∙ count in
    let most = rank_within (length ds) c.args.thousandths some share in
    absurd (too_few c.loop-row.passed c.rank_of-rank.result (length ds) (rank_of (length ds) c.args.thousandths) c.loop-row.invariant.few passed rank most)
  where
    too_few : (passed rank count most : ℕ) → passed < rank → passed ≡ count → rank ≡ most → most ≤ count → ⊥
    too_few passed rank count most l e f m = omega arith
