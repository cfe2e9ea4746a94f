use Rattle.std.proofs.Common.{◌++◌, ap, ◌∙◌, codes, decimal}
use Rattle.nm_series.specs.Rows.{counts_text, seen_text}
use Rattle.nm_series.proofs.RowsMore.{on_ok, put_together}
use Rattle.nm_series.proofs.iface_rows.push_row.Goals as goal

pub returns : goal.returns
returns c =
    let old = c.args.text.now.items in
    let two = c.push_text.new.text.items in
    let before = c.args.before.now in
    let after = c.args.after.now in
    on_ok c.end_row.result
    (put_together (decimal c.args.from) (codes ",") c.args.name.now
    (counts_text (record { traffic = before.traffic; dropped = before.dropped }) (record { traffic = after.traffic; dropped = after.dropped }))
    (seen_text c.args.seen.now) (codes "\n") old c.push_number.new.text.items two c.push_text-2.new.text.items c.push_counts.new.text.items c.push_seen.new.text.items
    c.end_row.new.text.items
    (c.in_ok-push_number.ensures ∙ ap (λ n. old ++ decimal n) c.nanoseconds.ensures)
    c.in_ok-push_text.ensures
    (c.in_ok-push_text-2.ensures ∙ ap (λ l. two ++ l) c.as_bytes.ensures.value)
    c.in_ok-push_counts.ensures
    c.in_ok-push_seen.ensures)
    c.end_row.ensures
