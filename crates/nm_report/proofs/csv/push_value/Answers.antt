use Rattle.std.proofs.Common.{◌++◌, ap, ◌∙◌, codes}
use Rattle.nm_report.specs.Values.{value_line}
use Rattle.nm_report.proofs.Pieces.{on_ok}
use Rattle.nm_report.proofs.csv.push_value.Goals as goal

pub returns-clause-is : goal.returns-clause-is
returns-clause-is c = on_ok c.push_line.result
    (λ made. made ∙ ap (λ name. c.args.text.now.items ++ value_line (codes "interface") name c.args.measure.now c.args.value) c.as_bytes.ensures.value)
    c.push_line.ensures.is
