-- The lines of answers, one after another.
use Rattle.std.proofs.Common.{◌≡◌, ℕ, ◌+◌, ◌<◌, List, ◌++◌, length, take, get_or}
use Rattle.nm_base.proofs.Numbered.{numbered_more}
use Rattle.nm_rounds.specs.declared.step.StepAnswer.{StepAnswer}
use Rattle.nm_script.specs.Printed.{answer_line, answer_lines}

pub answer_lines_more : (answers : List StepAnswer) (i : ℕ) (a : StepAnswer) → i < length answers → a ≡ get_or answers i a → answer_lines (take (i + 1) answers) ≡ answer_lines (take i answers) ++ answer_line (i, a)
answer_lines_more answers i a h e = numbered_more answer_line answers i a h e
