-- The steps of lines.
use Rattle.std.proofs.Common.{◌≡◌, ℕ, ◌≤◌, List, [], ◌∷◌, length, map, decimal, Option, Some, None, IfSome, sym, arith}
use Rattle.nm_rounds.specs.declared.step.WorldStep.{WorldStep}
use Rattle.nm_script.specs.Grammar.{IsStep, words_of}
use Rattle.nm_script.specs.Tokens.{step_said}
use Rattle.nm_script.proofs.Parts.{AreSmall}

-- no step has more than four numbers
pub at_most_four : (word numbers : List ℕ) (s : WorldStep) → step_said word numbers ≡ Some s → length numbers ≤ 4
at_most_four word [] s e = omega arith
at_most_four word (a ∷ []) s e = omega arith
at_most_four word (a ∷ b ∷ []) s e = omega arith
at_most_four word (a ∷ b ∷ c ∷ []) s e = omega arith
at_most_four word (a ∷ b ∷ c ∷ d ∷ []) s e = omega arith
at_most_four word (a ∷ b ∷ c ∷ d ∷ x ∷ more) s e = absurd (cc)

-- a line of one word is no step
pub one_word : (line word numbers : List ℕ) (s : WorldStep) → words_of line ≡ line ∷ [] → words_of line ≡ word ∷ map decimal numbers → step_said word numbers ≡ Some s → ⊥
one_word line word [] s a b named = cc
one_word line word (n ∷ numbers) s a b named = cc

-- the step of a line's words, if they name one
pub named_step : (line word numbers : List ℕ) (r : Option WorldStep) → words_of line ≡ word ∷ map decimal numbers → AreSmall numbers → r ≡ step_said word numbers → IfSome r (IsStep line)
named_step line word numbers None words small e = tt
named_step line word numbers (Some s) words small e = record { word = word; numbers = numbers; small = small; words = words; named = sym e }
