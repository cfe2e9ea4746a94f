use Rattle.std.proofs.Common.{◌++◌, ◌∙◌, ap, arith, codes, inr}
use Rattle.nm_report.specs.Sources.{measure_names}
use Rattle.nm_report.specs.Values.{value_line}
use Rattle.nm_report.proofs.Sources.{lines_more}
use Rattle.nm_report.proofs.source_lines.push_lines.Goals as goal

pub loop-place-preserved : goal.loop-place-preserved
loop-place-preserved c =
    let name = c.args.name.now in
    let old = c.loop-place.text.items in
    record {
      within = omega arith;
      lines = lines_more name measure_names c.args.values.now c.loop-place.place c.value_at.result c.name_of.result.now c.args.text.now.items old c.push_line.new.text.items
          c.name_of.ensures c.value_at.ensures c.loop-place.invariant.lines
          (c.in_ok-push_line.ensures.is ∙ ap (λ m. old ++ value_line (codes "source") name m c.value_at.result) c.as_bytes.ensures.value);
      whole = inr c.in_ok-push_line.ensures.ends;
    }
