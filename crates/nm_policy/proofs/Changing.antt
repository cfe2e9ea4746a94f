-- Lists whose elements are changed one after another, each in the same way.
use Rattle.std.proofs.Common.{◌≡◌, ◌∙◌, ℕ, ◌<◌, ◌+◌, List, ◌++◌, length, map, take, drop, get_or, set, sym, ap, subst}
use Rattle.std.proofs.lemmas.List.{length-append, length-map, take-append-drop}
use Rattle.std.proofs.lemmas.List.Edits.{map_over_more}

-- one more is changed
pub one_changed : {X : Type 0} (f : X → X) (xs ys : List X) (i : ℕ) (d v : X) → i < length xs → d ≡ get_or ys i d → v ≡ f (get_or ys i d)
    → ys ≡ map f (take i xs) ++ drop i xs → set ys i v ≡ map f (take (i + 1) xs) ++ drop (i + 1) xs
one_changed {X} f xs ys i d v below e is so_far =
    subst (λ (w : X). set ys i w ≡ map f (take (i + 1) xs) ++ drop (i + 1) xs) (sym (is ∙ ap f (sym e))) (map_over_more f xs ys i d below so_far e)

-- as many as there were
pub same_length : {X : Type 0} (f : X → X) (xs ys : List X) (i : ℕ) → ys ≡ map f (take i xs) ++ drop i xs → length ys ≡ length xs
same_length f xs ys i so_far =
    ap length so_far ∙ length-append (map f (take i xs)) (drop i xs) ∙ ap (λ n. n + length (drop i xs)) (length-map (take i xs) f)
    ∙ sym (length-append (take i xs) (drop i xs)) ∙ ap length (take-append-drop i xs)
