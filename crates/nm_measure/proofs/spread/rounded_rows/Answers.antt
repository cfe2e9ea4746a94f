use Rattle.std.proofs.Common.{true, arith}
use Rattle.std.proofs.lemmas.List.Sums.{sum_by_more_le}
use Rattle.nm_measure.specs.declared.spread.Row.{Row}
use Rattle.nm_measure.proofs.spread.rounded_rows.Goals as goal

pub note-requires-clause-fits : goal.note-requires-clause-fits
note-requires-clause-fits c =
    let most = sum_by_more_le (λ (r : Row). r.times) c.args.rows.now c.loop-row.row-index (record { delay = 0; times = 0 }) c.loop-row-test.true in
    let so_far = c.loop-row.invariant.times (λ d. true) in
    omega (arith, most, so_far, c.requires)
