use Rattle.std.proofs.Common.{◌++◌, List, ℕ, take, ap, sym, ◌∙◌, append_assoc}
use Rattle.std.specs.String.{string_bytes}
use Rattle.nm_script.specs.Printed.{answer_line, answer_lines}
use Rattle.nm_script.proofs.Printing.{answer_lines_more}
use Rattle.nm_script.proofs.report.push_answers.Goals as goal

pub loop-number-preserved : goal.loop-number-preserved
loop-number-preserved c =
    let line = answer_line (c.loop-number.number, c.index-answers-number.result) in
    let more = answer_lines_more c.args.answers.now c.loop-number.number c.index-answers-number.result c.loop-number-test.true c.index-answers-number.is in
    c.in_ok-push_answer_line.ensures ∙ ap (λ (t : List ℕ). t ++ line) c.loop-number.invariant
    ∙ append_assoc (string_bytes c.args.text.now) (answer_lines (take c.loop-number.number c.args.answers.now)) line
    ∙ ap (λ (t : List ℕ). string_bytes c.args.text.now ++ t) (sym more)
