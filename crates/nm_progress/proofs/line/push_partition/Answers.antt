use Rattle.std.proofs.Common.{codes, decimal}
use Rattle.nm_progress.proofs.Said.{three_pieces}
use Rattle.nm_progress.proofs.line.push_partition.Goals as goal

pub returns : goal.returns
returns c =
    three_pieces c.push_text-2.result c.args.text.now.items c.push_text.new.text.items c.push_number.new.text.items c.push_text-2.new.text.items
    c.push_number.new.text.items (codes ", partition ") (decimal c.args.partition) (codes " last") c.in_ok-push_text.ensures c.in_ok-push_number.ensures
    c.push_text-2.ensures
