-- One word of a clock board, and what its seats know of it.
use Rattle.std.specs.Prelude.{◌≡◌, ◌≢◌, ℕ, ◌+◌, ◌≤◌, List, [], ◌∷◌, ◌++◌, max}
use mathlib.Core.Option.{some}
use lib.ListN.{get_elem?}
use Rattle.nm_shared.specs.declared.word.View.{View}

-- the view that owns the word, with its value; and one that only looks
abbrev pub owner : View
owner = record { owned = 0 ∷ []; found = 0; looks = 0 }

abbrev pub looker : View
looker = record { owned = []; found = 0; looks = 0 }

abbrev pub all_max : ℕ → List ℕ → List ℕ
all_max k [] = []
all_max k (x ∷ xs) = max x k ∷ all_max k xs

-- the views after a raise, a look and a join
abbrev pub raised_view : ℕ → View → View
raised_view k v = record v { owned = all_max k v.owned }

abbrev pub looked : ℕ → View → View
looked n v = record v { found = n; looks = v.looks + 1 }

abbrev pub joined_view : View → View → View
joined_view v w = record {
  owned = v.owned ++ w.owned;
  found = max v.found w.found;
  looks = v.looks + w.looks;
}

abbrev pub AllAre : ℕ → List ℕ → Type 0
AllAre n [] = Unit {0}
AllAre n (x ∷ xs) = (x ≡ n) × AllAre n xs

-- the word n is the value that the view owns, if it owns the word, and the view found no more
abbrev pub Fits : ℕ → View → Type 0
Fits n v = AllAre n v.owned × (v.found ≤ n)

-- The rule: a word is the value of the view that owns it, at most one view owns it, and no view
-- found more
abbrev pub EachFits : ℕ → List View → Type 0
EachFits n views = (j : ℕ) (v : View) → get_elem? views j ≡ some v → Fits n v

abbrev pub OneOwns : List View → Type 0
OneOwns views = (i j : ℕ) (v w : View) → get_elem? views i ≡ some v → get_elem? views j ≡ some w
    → v.owned ≢ [] → w.owned ≢ [] → i ≡ j

pub record IsKept (words : List ℕ) (views : List View) : Type 0 where
  pub word : ℕ
  pub is : words ≡ word ∷ []
  pub fits : EachFits word views
  pub one : OneOwns views
