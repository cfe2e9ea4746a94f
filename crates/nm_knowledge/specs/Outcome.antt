-- What a call leaves and answers, by the definitions.
use Rattle.std.specs.Prelude.{◌≡◌, ℕ, ◌<◌, true, List, length, Some, None, is_some, Result, Ok, Err}
use Rattle.nm_model.specs.Knowledge.{Know, IsCompatible}
use Rattle.nm_model.specs.Accept as model
use Rattle.nm_model.specs.Join.{join, join_fault}
use Rattle.nm_knowledge.specs.declared.answer.Accepted.{Accepted}
use Rattle.nm_knowledge.specs.declared.answer.KnowFault.{KnowFault}
use Rattle.nm_knowledge.specs.declared.answer.KnowFault.TheVariants.{Memory}
use Rattle.nm_knowledge.specs.Answers.{reason, answer}
use Rattle.nm_knowledge.specs.Octets.{same_octets}

-- it answers and is left as the definition says; or a message that is new found no memory, and
-- nothing changed
abbrev pub Accepts : Know (List ℕ) → Know (List ℕ) → Result Accepted KnowFault
    → model.Accepted (List ℕ) → Type 0
Accepts old new (Err Memory) taken = (taken.answer ≡ model.New) × (new ≡ old)
Accepts old new (Ok a) taken = (Some taken.answer ≡ answer (Ok a)) × (new ≡ taken.after)
Accepts old new (Err f) taken = (Some taken.answer ≡ reason f) × (new ≡ taken.after)

-- the join if there is no fault, and else the fault, and nothing changed; or messages of the other
-- found no memory
abbrev pub Joins : Know (List ℕ) → Know (List ℕ) → Know (List ℕ) → Result Unit KnowFault → Type 0
Joins old new other (Ok _) = (join_fault same_octets old other ≡ None) × (new ≡ join old other)
Joins old new other (Err Memory) =
    (join_fault same_octets old other ≡ None) × (length old.list < length other.list) × (new ≡ old)
Joins old new other (Err f) = (join_fault same_octets old other ≡ reason f) × (new ≡ old)

-- whether two can be joined, and else the model's fault; that is never memory
abbrev pub Finds : Know (List ℕ) → Know (List ℕ) → Result Unit KnowFault → Type 0
Finds a b (Ok _) = join_fault same_octets a b ≡ None
Finds a b (Err f) = (is_some (reason f) ≡ true) × (join_fault same_octets a b ≡ reason f)

-- the join of two that are compatible; or messages of the other found no memory, or the two are
-- not compatible, and nothing changed
abbrev pub Merges : Know (List ℕ) → Know (List ℕ) → Know (List ℕ) → Result Unit KnowFault → Type 0
Merges old new other (Ok _) = IsCompatible old other × (new ≡ join old other)
Merges old new other (Err Memory) = IsCompatible old other × (new ≡ old)
Merges old new other (Err f) = ¬ (IsCompatible old other) × (new ≡ old)
