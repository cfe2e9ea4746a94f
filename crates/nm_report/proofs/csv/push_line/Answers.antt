use Rattle.std.proofs.Common.{decimal}
use Rattle.nm_report.proofs.Pieces.{line_pieces, on_ok}
use Rattle.nm_report.proofs.csv.push_line.Goals as goal

pub returns-clause-is : goal.returns-clause-is
returns-clause-is c = on_ok c.end_value.result
    (line_pieces c.args.kind.now c.args.name.now c.args.measure.now (decimal c.args.value) c.args.text.now.items
    c.push_text.new.text.items c.push_text-2.new.text.items c.push_text-3.new.text.items c.push_text-4.new.text.items c.push_text-5.new.text.items c.push_text-6.new.text.items
    c.push_number.new.text.items c.end_value.new.text.items
    c.in_ok-push_text.ensures c.in_ok-push_text-2.ensures c.in_ok-push_text-3.ensures c.in_ok-push_text-4.ensures c.in_ok-push_text-5.ensures c.in_ok-push_text-6.ensures c.in_ok-push_number.ensures)
    c.end_value.ensures.is
