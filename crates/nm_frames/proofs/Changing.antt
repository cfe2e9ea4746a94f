-- The elements of a list, each changed in its place, one after another.
use Rattle.std.proofs.Common.{◌≡◌, ◌∙◌, ℕ, ◌+◌, ◌<◌, List, ◌++◌, length, map, take, drop, get_or, set, sym, ap, subst}
use Rattle.std.proofs.lemmas.List.Edits.{map_over_more}

-- element x of number i becomes y, and those before it were changed
pub changed_more : {A : Type 0} (f : A → A) (xs ys : List A) (i : ℕ) (x y : A) → i < length xs → ys ≡ map f (take i xs) ++ drop i xs → x ≡ get_or ys i x → y ≡ f (get_or ys i x)
    → set ys i y ≡ map f (take (i + 1) xs) ++ drop (i + 1) xs
changed_more {A} f xs ys i x y low so_far is new =
    subst (λ (v : A). set ys i v ≡ map f (take (i + 1) xs) ++ drop (i + 1) xs) (sym (new ∙ ap f (sym is))) (map_over_more f xs ys i x low so_far is)
