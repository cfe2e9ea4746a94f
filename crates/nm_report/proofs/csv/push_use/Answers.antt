use Rattle.std.proofs.Common.{codes}
use Rattle.nm_report.specs.Values.{iface_line}
use Rattle.nm_report.proofs.Pieces.{on_ok, three_pieces}
use Rattle.nm_report.proofs.csv.push_use.Goals as goal

pub returns-clause-is : goal.returns-clause-is
returns-clause-is c =
    let name = c.args.name.now in
    on_ok c.push_value-3.result
    (three_pieces (iface_line name (codes "dropped") c.args.dropped) (iface_line name (codes "longest_queue") c.args.longest) (iface_line name (codes "busy_nanoseconds") c.args.busy)
    c.args.text.now.items c.push_value.new.text.items c.push_value-2.new.text.items c.push_value-3.new.text.items
    c.in_ok-push_value.ensures.is c.in_ok-push_value-2.ensures.is)
    c.push_value-3.ensures.is
