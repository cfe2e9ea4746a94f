use Rattle.std.proofs.Common.{◌++◌, ap, ◌∙◌, codes}
use Rattle.nm_report.specs.Sources.{measure_names, name_cells}
use Rattle.nm_report.proofs.Pieces.{on_ok, regrouped}
use Rattle.nm_report.proofs.source_rows.push_head.Goals as goal

pub returns-clause-is : goal.returns-clause-is
returns-clause-is c = on_ok c.end_row.result (λ ended. ended
    ∙ ap (λ l. l ++ codes "\n") (c.in_ok-push_names.ensures ∙ ap (λ l. l ++ name_cells measure_names) c.in_ok-push_text.ensures)
    ∙ regrouped c.args.text.now.items (codes "source,kind,node,to") (name_cells measure_names) (codes "\n")) c.end_row.ensures.is
