use Rattle.std.proofs.Common.{◌++◌, ap, ◌∙◌, codes, append_assoc}
use Rattle.nm_series.proofs.RowsMore.{on_ok}
use Rattle.nm_series.proofs.buckets.push_head.Goals as goal

pub returns-clause-is : goal.returns-clause-is
returns-clause-is c = on_ok c.end_row.result (λ ends. ends ∙ ap (λ l. l ++ codes "\n") c.in_ok-push_text.ensures
    ∙ append_assoc c.args.text.now.items (codes "source,from_nanoseconds,to_nanoseconds,packets") (codes "\n")) c.end_row.ensures
