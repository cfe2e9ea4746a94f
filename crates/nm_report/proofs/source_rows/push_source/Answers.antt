use Rattle.std.proofs.Common.{◌++◌, ap, ◌∙◌, codes, decimal}
use Rattle.nm_report.specs.Sources.{destination_text, kind_name}
use Rattle.nm_report.proofs.Pieces.{on_ok, seven_pieces}
use Rattle.nm_report.proofs.source_rows.push_source.Goals as goal

pub returns : goal.returns
returns c =
    let old = c.args.text.now.items in
    let s = c.args.source.now in
    on_ok c.push_destination.result (λ to node at.
    seven_pieces (decimal c.args.number) (codes ",") (kind_name s.traffic) (codes ",") node.name (codes ",") (destination_text s.traffic) old
    c.push_number.new.text.items c.push_text.new.text.items c.push_text-2.new.text.items c.push_text-3.new.text.items c.push_text-4.new.text.items c.push_text-5.new.text.items c.push_destination.new.text.items
    (c.in_ok-push_number.ensures ∙ ap (λ n. old ++ decimal n) c.index.ensures)
    c.in_ok-push_text.ensures
    (c.in_ok-push_text-2.ensures ∙ ap (λ l. c.push_text.new.text.items ++ l) (c.as_bytes.ensures.value ∙ c.kind_of.ensures))
    c.in_ok-push_text-3.ensures
    (c.in_ok-push_text-4.ensures ∙ ap (λ l. c.push_text-3.new.text.items ++ l) (c.as_bytes-2.ensures.value ∙ c.node_name.ensures node at))
    c.in_ok-push_text-5.ensures
    to) c.push_destination.ensures
