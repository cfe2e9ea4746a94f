-- Counting ends of links, and tests of each number below a bound.
use Rattle.std.proofs.Common.{◌≡◌, ◌⊎◌, ℕ, suc, ◌+◌, ◌-◌, ◌<◌, Bool, true, false, cond, ◌&&◌, ◌||◌}
use Rattle.std.proofs.Common.{◌==◌, min, List, [], ◌∷◌, ◌++◌, length, filter, get_or, map, refl}
use Rattle.std.proofs.Common.{sym, ap, ◌∙◌, subst, arith, ⊎_elim, add_assoc, add-one, add-zero}
use Rattle.std.proofs.Common.{zero-add, append_assoc, length-set, get_or-set_same, get_or-set_other}
use Rattle.std.proofs.lemmas.Bool.Decides.{nat_tests}
use Rattle.std.specs.List.{list_all, list_any}
use Rattle.nm_topology.specs.declared.parts.Link.{Link}
use Rattle.nm_topology.specs.Build.{numbers_from}
use Rattle.nm_topology.specs.Validate.{one_if, bump, uses}

pub same_or_not : (a i : ℕ) → (a ≡ i) ⊎ (a ≡ i → ⊥)
same_or_not a i = grind arith

pub one_here : (a i : ℕ) → a ≡ i → one_if (a == i) ≡ 1
one_here a i e = grind (arith, nat_tests)

pub one_there : (a i : ℕ) → (a ≡ i → ⊥) → one_if (a == i) ≡ 0
one_there a i e = grind (arith, nat_tests)

pub bump-get : (u : List ℕ) (a i rest : ℕ) → a < length u → min 255 (get_or (bump u a) i 0 + rest) ≡ min 255 (get_or u i 0 + (one_if (a == i) + rest))
bump-get u a i rest h = ⊎_elim
    (λ e.
    let here : get_or (bump u a) i 0 ≡ min 255 (get_or u a 0 + 1) = ap (λ j. get_or (bump u a) j 0) (sym e) ∙ get_or-set_same u a (min 255 (get_or u a 0 + 1)) 0 h in
    let same : get_or u a 0 ≡ get_or u i 0 = ap (λ j. get_or u j 0) e in
    let one = one_here a i e in
    omega (arith, here, same, one))
    (λ e.
    let there : get_or (bump u a) i 0 ≡ get_or u i 0 = get_or-set_other u a i (min 255 (get_or u a 0 + 1)) 0 (λ q. e (sym q)) in
    let none = one_there a i e in
    omega (arith, there, none))
    (same_or_not a i)

-- one link more
pub uses-more : (u : List ℕ) (l : Link) (ls : List Link) (i : ℕ) → l.a < length u → l.b < length u → min 255 (get_or (bump (bump u l.a) l.b) i 0 + uses i ls) ≡ min 255 (get_or u i 0 + uses i (l ∷ ls))
uses-more u l ls i a b =
    let second = bump-get (bump u l.a) l.b i (uses i ls) (subst (λ n. l.b < n) (sym (length-set u l.a (min 255 (get_or u l.a 0 + 1)))) b) in
    let first = bump-get u l.a i (one_if (l.b == i) + uses i ls) a in
    second ∙ first ∙ ap (λ n. min 255 (get_or u i 0 + n)) (sym (add_assoc (one_if (l.a == i)) (one_if (l.b == i)) (uses i ls)))

-- a test of each element is a test of each number
pub list_all-numbers : {X : Type 0} (d : X) (p : X → Bool) (q : ℕ → Bool) (xs : List X) (j : ℕ) → ((i : ℕ) → i < length xs → p (get_or xs i d) ≡ q (j + i)) → list_all p xs ≡ list_all q (numbers_from j (length xs))
list_all-numbers d p q [] j h = refl
list_all-numbers d p q (x ∷ xs) j h =
    ap (λ b. b && list_all p xs) (h 0 (omega arith) ∙ ap q (add-zero j))
    ∙ ap (λ b. q j && b) (list_all-numbers d p q xs (suc j) (λ i l. h (suc i) (omega arith) ∙ ap q (omega arith)))

pub list_any-numbers : {X : Type 0} (d : X) (p : X → Bool) (q : ℕ → Bool) (xs : List X) (j : ℕ) → ((i : ℕ) → i < length xs → p (get_or xs i d) ≡ q (j + i)) → list_any p xs ≡ list_any q (numbers_from j (length xs))
list_any-numbers d p q [] j h = refl
list_any-numbers d p q (x ∷ xs) j h =
    ap (λ b. b || list_any p xs) (h 0 (omega arith) ∙ ap q (add-zero j))
    ∙ ap (λ b. q j || b) (list_any-numbers d p q xs (suc j) (λ i l. h (suc i) (omega arith) ∙ ap q (omega arith)))

one_or_not : (x y : ℕ) → min 255 x ≡ min 255 y → (x == 1) ≡ (y == 1)
one_or_not x y h = grind (arith, nat_tests)

-- counts that agree up to 255 are 1 at the same numbers
pub ones : (u : List ℕ) (f : ℕ → ℕ) → ((i : ℕ) → i < length u → min 255 (get_or u i 0) ≡ min 255 (f i)) → list_all (λ x. x == 1) u ≡ list_all (λ i. f i == 1) (numbers_from 0 (length u))
ones u f h = list_all-numbers 0 (λ x. x == 1) (λ i. f i == 1) u 0 (λ i l. one_or_not (get_or u i 0) (f i) (h i l) ∙ ap (λ j. f j == 1) (sym (zero-add i)))

-- a list whose elements are those of f is f of each number
pub map-numbers : {X : Type 0} (d : X) (f : ℕ → X) (xs : List X) (j : ℕ) → ((i : ℕ) → i < length xs → get_or xs i d ≡ f (j + i)) → xs ≡ map f (numbers_from j (length xs))
map-numbers d f [] j h = refl
map-numbers d f (x ∷ xs) j h =
    ap (λ y. y ∷ xs) (h 0 (omega arith) ∙ ap f (add-zero j))
    ∙ ap (λ ys. f j ∷ ys) (map-numbers d f xs (suc j) (λ i l. h (suc i) (omega arith) ∙ ap f (omega arith)))

-- the numbers that pass, one number more
module _ (p : ℕ → Bool) (front : List ℕ) (i n : ℕ) (h : i < n) where
  numbers-step : numbers_from i (n - i) ≡ i ∷ numbers_from (i + 1) (n - (i + 1))
  numbers-step =
      let more : n - i ≡ suc (n - (i + 1)) = omega arith in
      ap (numbers_from i) more ∙ ap (λ j. i ∷ numbers_from j (n - (i + 1))) (sym (add-one i))

  filter-cons : filter p (i ∷ numbers_from (i + 1) (n - (i + 1))) ≡ cond (p i) (i ∷ filter p (numbers_from (i + 1) (n - (i + 1)))) (filter p (numbers_from (i + 1) (n - (i + 1))))
  filter-cons = refl

  pub passes-more : p i ≡ true → (front ++ i ∷ []) ++ filter p (numbers_from (i + 1) (n - (i + 1))) ≡ front ++ filter p (numbers_from i (n - i))
  passes-more e =
      append_assoc front (i ∷ []) (filter p (numbers_from (i + 1) (n - (i + 1))))
      ∙ ap (λ b. front ++ cond b (i ∷ filter p (numbers_from (i + 1) (n - (i + 1)))) (filter p (numbers_from (i + 1) (n - (i + 1))))) (sym e)
      ∙ ap (λ is. front ++ filter p is) (sym numbers-step)

  pub fails-more : p i ≡ false → front ++ filter p (numbers_from (i + 1) (n - (i + 1))) ≡ front ++ filter p (numbers_from i (n - i))
  fails-more e =
      ap (λ b. front ++ cond b (i ∷ filter p (numbers_from (i + 1) (n - (i + 1)))) (filter p (numbers_from (i + 1) (n - (i + 1))))) (sym e)
      ∙ ap (λ is. front ++ filter p is) (sym numbers-step)
