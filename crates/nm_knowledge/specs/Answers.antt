-- The answers of the definitions in the program's words.
use Rattle.std.specs.Prelude.{ℕ, Option, Some, None, Result, Ok, Err}
use Rattle.nm_model.specs.Accept as model
use Rattle.nm_knowledge.specs.declared.answer.Accepted.{Accepted}
use Rattle.nm_knowledge.specs.declared.answer.Accepted.TheVariants.{New, Known, Raised}
use Rattle.nm_knowledge.specs.declared.answer.KnowFault.{KnowFault}
use Rattle.nm_knowledge.specs.declared.answer.KnowFault.TheVariants.{Gap, Differs, Late, NotRising, Memory, Contrary}

abbrev pub know_fault_number : KnowFault → ℕ
know_fault_number (Gap h) = 1
know_fault_number (Differs n) = 2
know_fault_number (Late t) = 3
know_fault_number NotRising = 4
know_fault_number Memory = 5
know_fault_number (Contrary n) = 6

-- no definition speaks of memory
abbrev pub reason : KnowFault → Option model.Answer
reason (Gap h) = Some (model.Gap h)
reason (Differs n) = Some (model.Differs n)
reason (Late t) = Some (model.Late t)
reason NotRising = Some model.NotRising
reason Memory = None
reason (Contrary n) = Some (model.Contrary n)

abbrev pub answer : Result Accepted KnowFault → Option model.Answer
answer (Ok New) = Some model.New
answer (Ok Known) = Some model.Known
answer (Ok Raised) = Some model.Raised
answer (Err f) = reason f
