use Rattle.std.proofs.Common.{◌++◌, ap, ◌∙◌, codes, decimal, append_assoc}
use Rattle.nm_series.specs.Flows.{added_text, late_text}
use Rattle.nm_series.specs.Rows.{cell}
use Rattle.nm_series.proofs.RowsMore.{on_ok}
use Rattle.nm_series.proofs.flow_rows.push_row.Goals as goal

pub returns : goal.returns
returns c =
    let old = c.args.text.now.items in
    on_ok c.end_row.result
    (λ ends. ends
    ∙ ap (λ l. l ++ codes "\n") (c.in_ok-push_late.ensures
    ∙ ap (λ l. l ++ late_text c.args.before.now c.args.after.now c.args.greatest) (c.in_ok-push_added.ensures
    ∙ ap (λ l. l ++ added_text c.args.before.now c.args.after.now) (c.in_ok-push_cell.ensures
    ∙ ap (λ l. l ++ cell c.args.source) (c.in_ok-push_number.ensures ∙ ap (λ n. old ++ decimal n) c.nanoseconds.ensures))))
    ∙ simp append_assoc)
    c.end_row.ensures
