-- How many words a command has.
use Rattle.std.proofs.Common.{◌≡◌, ℕ, ◌<◌, List, [], ◌∷◌, length, Option, refl, arith}
use Rattle.nm_command.specs.Command.{CommandValue, certify_or, files_or}

-- `all` and `verify` have three words at least
pub few_are_others : (words : List (List ℕ)) (other : Option CommandValue) → length words < 3 → files_or words other ≡ other
few_are_others [] other few = refl
few_are_others (a ∷ []) other few = refl
few_are_others (a ∷ b ∷ []) other few = refl
few_are_others (a ∷ b ∷ c ∷ words) other few = absurd (omega (arith, few))

-- `certify` too
pub few_certify_none : (words : List (List ℕ)) (other : Option CommandValue) → length words < 3 → certify_or words other ≡ other
few_certify_none [] other few = refl
few_certify_none (a ∷ []) other few = refl
few_certify_none (a ∷ b ∷ []) other few = refl
few_certify_none (a ∷ b ∷ c ∷ words) other few = absurd (omega (arith, few))
