-- What each of a list's elements gives with its number, one after another.
use Rattle.std.proofs.Common.{◌≡◌, ℕ, ◌+◌, ◌<◌, suc, List, [], ◌∷◌, ◌++◌, length, take, get_or, ap, sym, ◌∙◌, arith}
use Rattle.std.specs.List.{enumerate_from, flat_map}
use Rattle.std.proofs.lemmas.List.{take_more, append-nil, length-take-le}
use Rattle.std.proofs.lemmas.Grind.{flat_map-append}

-- one more element has the next number
enumerate_from-push : {X : Type 0} (n : ℕ) (xs : List X) (x : X) → enumerate_from n (xs ++ x ∷ []) ≡ enumerate_from n xs ++ (n + length xs, x) ∷ []
enumerate_from-push n [] x =
    let first : n ≡ n + 0 = omega arith in ap (λ (k : ℕ). (k, x) ∷ []) first
enumerate_from-push n (y ∷ ys) x =
    let next : (n + 1) + length ys ≡ n + suc (length ys) = omega arith in
    ap (λ (more : List (ℕ × _)). (n, y) ∷ more) (enumerate_from-push (n + 1) ys x ∙ ap (λ (k : ℕ). enumerate_from (n + 1) ys ++ (k, x) ∷ []) next)

pub numbered_more : {X Y : Type 0} (f : ℕ × X → List Y) (xs : List X) (i : ℕ) (x : X) → i < length xs → x ≡ get_or xs i x
    → flat_map f (enumerate_from 0 (take (i + 1) xs)) ≡ flat_map f (enumerate_from 0 (take i xs)) ++ f (i, x)
numbered_more {X} {Y} f xs i x h e =
    let one : take (i + 1) xs ≡ take i xs ++ x ∷ [] = take_more xs i x h ∙ ap (λ (y : X). take i xs ++ y ∷ []) (sym e) in
    let many : 0 + length (take i xs) ≡ i = omega (arith, length-take-le i xs (omega arith)) in
    let numbered : enumerate_from 0 (take (i + 1) xs) ≡ enumerate_from 0 (take i xs) ++ (i, x) ∷ [] =
    ap (λ (ys : List X). enumerate_from 0 ys) one ∙ enumerate_from-push 0 (take i xs) x
    ∙ ap (λ (k : ℕ). enumerate_from 0 (take i xs) ++ (k, x) ∷ []) many in
    ap (λ (ys : List (ℕ × X)). flat_map f ys) numbered
    ∙ flat_map-append f (enumerate_from 0 (take i xs)) ((i, x) ∷ [])
    ∙ ap (λ (ys : List Y). flat_map f (enumerate_from 0 (take i xs)) ++ ys) (append-nil (f (i, x)))
