-- The text of a report.
use Rattle.std.specs.Prelude.{ℕ, List, ◌++◌, codes, decimal, length}
use Rattle.std.specs.List.{flat_map, enumerate_from}
use Rattle.nm_knowledge.specs.declared.answer.Accepted.{Accepted}
use Rattle.nm_knowledge.specs.declared.answer.Accepted.TheVariants.{New, Known, Raised}
use Rattle.nm_knowledge.specs.declared.answer.KnowFault.{KnowFault}
use Rattle.nm_knowledge.specs.declared.answer.KnowFault.TheVariants.{Gap, Differs, Late, NotRising, Memory, Contrary}
use Rattle.nm_book.specs.Book.{BookValue, safe_of, state_of}
use Rattle.nm_rounds.specs.declared.step.StepAnswer.{StepAnswer}
use Rattle.nm_rounds.specs.declared.step.StepAnswer.TheVariants.{All, Limit, Frames, Accepted as TakenIn, Refused, Merged, MergeRefused, Emptied}

abbrev pub accepted_text : Accepted → List ℕ
accepted_text New = codes "new"
accepted_text Known = codes "known"
accepted_text Raised = codes "raised"

-- why a replica refused; no answer is that memory was refused
abbrev pub fault_text : KnowFault → List ℕ
fault_text (Gap have) = codes "gap " ++ decimal have
fault_text (Differs number) = codes "differs " ++ decimal number
fault_text (Late clock) = codes "late " ++ decimal clock
fault_text NotRising = codes "notrising"
fault_text Memory = codes "memory"
fault_text (Contrary count) = codes "contrary " ++ decimal count

-- of a refused merge the channel is not printed
abbrev pub answer_text : StepAnswer → List ℕ
answer_text (All n) = codes "all " ++ decimal n
answer_text (Limit n) = codes "limit " ++ decimal n
answer_text (Frames n) = codes "frames " ++ decimal n
answer_text (TakenIn a) = accepted_text a
answer_text (Refused f) = fault_text f
answer_text Merged = codes "merged"
answer_text (MergeRefused c f) = fault_text f
answer_text Emptied = codes "empty"

-- the line of the answer of this number
abbrev pub answer_line : ℕ × StepAnswer → List ℕ
answer_line answer = decimal answer.0 ++ codes " " ++ answer_text answer.1 ++ codes "\n"

-- the lines of answers, from number 0 on
abbrev pub answer_lines : List StepAnswer → List ℕ
answer_lines answers = flat_map answer_line (enumerate_from 0 answers)

abbrev pub book_line : BookValue → List ℕ
book_line b =
    codes "book " ++ decimal b.partition ++ codes " " ++ decimal b.replica
    ++ codes " events " ++ decimal b.events ++ codes " safe " ++ decimal (safe_of b)
    ++ codes " records " ++ decimal (length (state_of b).records) ++ codes "\n"

-- the answers and then the books, in their order
abbrev pub report_text : List StepAnswer → List BookValue → List ℕ
report_text answers books = answer_lines answers ++ flat_map book_line books
