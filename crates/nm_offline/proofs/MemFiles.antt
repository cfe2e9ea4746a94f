-- Files in memory, found by their names.
use Rattle.std.proofs.Common.{◌≡◌, ◌<◌, ◌∙◌, ℕ, Bool, true, false, cond, nat_lt, find, position, length, List, slice_get, Some, None, ap, sym, arith}
use Rattle.std.specs.List.{position_or_len}
use Rattle.std.proofs.lemmas.Bool.Decides.{nat_tests}
use Rattle.std.proofs.lemmas.List.Folds.{find_at}
use Rattle.std.proofs.lemmas.Option.{same_Some, slice_get_past}

some_none : {X : Type 0} (x : X) → Some x ≡ None → ⊥
some_none x e = cc

none_some : {X : Type 0} (x : X) → None ≡ Some x → ⊥
none_some x e = cc

-- where none passes none is found
pub none_there : {X : Type 0} (p : X → Bool) (xs : List X) → position p xs ≡ None → find p xs ≡ None
none_there p xs none = pick (nat_lt (position_or_len p xs) (length xs)) refl
  where
    refl : nat_lt (position_or_len p xs) (length xs) ≡ nat_lt (position_or_len p xs) (length xs)
    refl = cc

    pick : (b : Bool) → nat_lt (position_or_len p xs) (length xs) ≡ b → find p xs ≡ None
    pick true is = absurd (some_none (position_or_len p xs) (sym (ap (λ b. cond b (Some (position_or_len p xs)) None) is) ∙ none))
    pick false is = find_at p xs ∙ slice_get_past xs (position_or_len p xs) (grind (arith, nat_tests, is))

-- the one that is found is there
pub one_there : {X : Type 0} (p : X → Bool) (xs : List X) (i : ℕ) → position p xs ≡ Some i → (i < length xs) × (find p xs ≡ slice_get xs i)
one_there p xs i at = pick (nat_lt (position_or_len p xs) (length xs)) refl
  where
    refl : nat_lt (position_or_len p xs) (length xs) ≡ nat_lt (position_or_len p xs) (length xs)
    refl = cc

    pick : (b : Bool) → nat_lt (position_or_len p xs) (length xs) ≡ b → (i < length xs) × (find p xs ≡ slice_get xs i)
    pick false is = absurd (none_some i (sym (ap (λ b. cond b (Some (position_or_len p xs)) None) is) ∙ at))
    pick true is =
        let same : position_or_len p xs ≡ i = same_Some (position_or_len p xs) i (sym (ap (λ b. cond b (Some (position_or_len p xs)) None) is) ∙ at) in
        (grind (arith, nat_tests, is, same), find_at p xs ∙ ap (slice_get xs) same)
