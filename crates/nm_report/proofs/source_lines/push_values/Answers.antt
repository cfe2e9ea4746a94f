use Rattle.std.proofs.Common.{arith}
use Rattle.nm_report.proofs.Sources.{row_more}
use Rattle.nm_report.proofs.source_lines.push_values.Goals as goal

pub loop-place-preserved : goal.loop-place-preserved
loop-place-preserved c = record {
  within = omega arith;
  cells = row_more c.args.values.now c.loop-place.place c.value_at.result c.args.text.now.items c.loop-place.text.items c.push_text.new.text.items c.push_number.new.text.items
      c.value_at.ensures c.loop-place.invariant.cells c.in_ok-push_text.ensures c.in_ok-push_number.ensures;
}
