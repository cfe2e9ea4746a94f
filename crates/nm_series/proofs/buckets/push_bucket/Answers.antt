use Rattle.std.proofs.Common.{◌++◌, ap, ◌∙◌, codes, append_assoc}
use Rattle.nm_series.specs.Rows.{cell}
use Rattle.nm_series.proofs.RowsMore.{on_ok}
use Rattle.nm_series.proofs.buckets.push_bucket.Goals as goal

pub returns-clause-is : goal.returns-clause-is
returns-clause-is c =
    let b = c.args.bucket.now in
    on_ok c.end_row.result (λ ends. ends
    ∙ ap (λ l. l ++ codes "\n") (c.in_ok-push_cell-3.ensures ∙ ap (λ l. l ++ cell b.times) (c.in_ok-push_cell-2.ensures ∙ ap (λ l. l ++ cell b.greatest) (c.in_ok-push_cell.ensures ∙ ap (λ l. l ++ cell b.least) c.in_ok-push_number.ensures)))
    ∙ simp append_assoc) c.end_row.ensures
