-- The event list (Misra, section 1): a finite map from keys to pending events, from which the
-- least key is taken.
use Rattle.std.specs.Prelude.{◌≡◌, ℕ, Bool, false, if◌then◌else◌, ltb, min, List, [], ◌∷◌, Option, Some, None}
use Rattle.std.specs.Ordering.{is_gt}
use Rattle.std.specs.FinMap.{FinMap, entries, insert}
use Rattle.nm_base.specs.declared.key.Place.{Place}
use Rattle.nm_base.specs.declared.key.Key.{Key}
use Rattle.nm_base.specs.Key.{key_cmp}

-- a is at or before b
unfoldable pub IsUpTo : Key → Key → Type 0
IsUpTo a b = is_gt (key_cmp a b) ≡ false

abbrev pub first_of_list : {A : Type 0} → List A → Option A
first_of_list [] = None
first_of_list (x ∷ xs) = Some x

-- the entry with the least key
unfoldable pub least : {X : Type 0} → FinMap key_cmp X → Option (Key × X)
least m = first_of_list (entries m)

-- those entries whose place is here are put into the list
abbrev pub schedule : {X : Type 0} → (Place → Bool) → List (Key × X) → FinMap key_cmp X
    → FinMap key_cmp X
schedule here [] m = m
schedule here (e ∷ es) m =
    if here e.0.place then insert (schedule here es m) e.0 e.1 else schedule here es m

abbrev pub is_before : {X : Type 0} → ℕ → Option (Key × X) → Bool
is_before t None = false
is_before t (Some e) = ltb e.0.time t

-- the time of what is pending first, or t if nothing before t is pending
abbrev pub next_time : {X : Type 0} → ℕ → Option (Key × X) → ℕ
next_time t None = t
next_time t (Some e) = min t e.0.time
