-- The order of keys is that of times, numbers of places and numbers.
use Rattle.std.proofs.Common.{◌≡◌, ◌⊎◌, ℕ, ◌+◌, ◌*◌, ◌<◌, List, [], ◌∷◌, sym, ap, ◌∙◌, arith, ⊎_elim, Ordering, Less, Equal, Greater}
use Rattle.std.proofs.lemmas.Bool.Decides.{nat_tests}
use Rattle.std.specs.Ordering.{nat_cmp, ordering_then}
use Rattle.std.specs.Cmp.Lexicographic.{slice_cmp}
use Rattle.nm_base.specs.declared.key.Place.{Place}
use Rattle.nm_base.specs.declared.key.Place.TheVariants.{Arrive, Complete, Fire}
use Rattle.nm_base.specs.declared.key.Key.{Key}
use Rattle.nm_base.specs.Key.{class_of, index_of, end_of, key_cmp, place_number, IsPlaceOf, key_numbers}

less : (s t : ℕ) → s < t → nat_cmp s t ≡ Less
less s t h = grind (arith, nat_tests)

even : (s t : ℕ) → s ≡ t → nat_cmp s t ≡ Equal
even s t h = grind (arith, nat_tests)

greater : (s t : ℕ) → t < s → nat_cmp s t ≡ Greater
greater s t h = grind (arith, nat_tests)

three_ways : (s t : ℕ) → (s < t) ⊎ ((s ≡ t) ⊎ (t < s))
three_ways s t = grind arith

-- two orders that agree on what is less, tied and greater
module _ (a b s t : ℕ) (o p : Ordering) where
  by_parts : (a < b → ordering_then (nat_cmp s t) p ≡ Less) → (a ≡ b → ordering_then (nat_cmp s t) p ≡ o) → (b < a → ordering_then (nat_cmp s t) p ≡ Greater) → ordering_then (nat_cmp a b) o ≡ ordering_then (nat_cmp s t) p
  by_parts f g h = ⊎_elim
      (λ e. ap (λ r. ordering_then r o) (less a b e) ∙ sym (f e))
      (λ c. ⊎_elim
      (λ e. ap (λ r. ordering_then r o) (even a b e) ∙ sym (g e))
      (λ e. ap (λ r. ordering_then r o) (greater a b e) ∙ sym (h e))
      c)
      (three_ways a b)

  first_less : s < t → ordering_then (nat_cmp s t) p ≡ Less
  first_less e = ap (λ r. ordering_then r p) (less s t e)

  first_even : s ≡ t → ordering_then (nat_cmp s t) p ≡ p
  first_even e = ap (λ r. ordering_then r p) (even s t e)

  first_greater : t < s → ordering_then (nat_cmp s t) p ≡ Greater
  first_greater e = ap (λ r. ordering_then r p) (greater s t e)

-- a place's part of the code of a key, before the rest
abbrev place_code : Place → List ℕ → List ℕ
place_code p rest = class_of p ∷ index_of p ∷ end_of p ∷ rest

place_order : (n : ℕ) (p q : Place) (l m : List ℕ) → IsPlaceOf n p → IsPlaceOf n q → slice_cmp nat_cmp (place_code p l) (place_code q m) ≡ ordering_then (nat_cmp (place_number n p) (place_number n q)) (slice_cmp nat_cmp l m)
place_order n (Arrive i) (Arrive j) l m h k = let r = slice_cmp nat_cmp l m in by_parts i j (2 * i) (2 * j) r r (λ e. first_less i j (2 * i) (2 * j) r r (omega arith)) (λ e. first_even i j (2 * i) (2 * j) r r (omega arith)) (λ e. first_greater i j (2 * i) (2 * j) r r (omega arith))
place_order n (Arrive i) (Complete j) l m h k = let r = slice_cmp nat_cmp l m in by_parts i j (2 * i) (2 * j + 1) Less r (λ e. first_less i j (2 * i) (2 * j + 1) Less r (omega arith)) (λ e. first_less i j (2 * i) (2 * j + 1) Less r (omega arith)) (λ e. first_greater i j (2 * i) (2 * j + 1) Less r (omega arith))
place_order n (Arrive i) (Fire j) l m h k = let r = slice_cmp nat_cmp l m in sym (first_less 0 0 (2 * i) (2 * n + j) r r (omega arith))
place_order n (Complete i) (Arrive j) l m h k = let r = slice_cmp nat_cmp l m in by_parts i j (2 * i + 1) (2 * j) Greater r (λ e. first_less i j (2 * i + 1) (2 * j) Greater r (omega arith)) (λ e. first_greater i j (2 * i + 1) (2 * j) Greater r (omega arith)) (λ e. first_greater i j (2 * i + 1) (2 * j) Greater r (omega arith))
place_order n (Complete i) (Complete j) l m h k = let r = slice_cmp nat_cmp l m in by_parts i j (2 * i + 1) (2 * j + 1) r r (λ e. first_less i j (2 * i + 1) (2 * j + 1) r r (omega arith)) (λ e. first_even i j (2 * i + 1) (2 * j + 1) r r (omega arith)) (λ e. first_greater i j (2 * i + 1) (2 * j + 1) r r (omega arith))
place_order n (Complete i) (Fire j) l m h k = let r = slice_cmp nat_cmp l m in sym (first_less 0 0 (2 * i + 1) (2 * n + j) r r (omega arith))
place_order n (Fire i) (Arrive j) l m h k = let r = slice_cmp nat_cmp l m in sym (first_greater 0 0 (2 * n + i) (2 * j) r r (omega arith))
place_order n (Fire i) (Complete j) l m h k = let r = slice_cmp nat_cmp l m in sym (first_greater 0 0 (2 * n + i) (2 * j + 1) r r (omega arith))
place_order n (Fire i) (Fire j) l m h k = let r = slice_cmp nat_cmp l m in by_parts i j (2 * n + i) (2 * n + j) r r (λ e. first_less i j (2 * n + i) (2 * n + j) r r (omega arith)) (λ e. first_even i j (2 * n + i) (2 * n + j) r r (omega arith)) (λ e. first_greater i j (2 * n + i) (2 * n + j) r r (omega arith))

pub order_is : (n : ℕ) (a b : Key) → IsPlaceOf n a.place → IsPlaceOf n b.place → key_cmp a b ≡ slice_cmp nat_cmp (key_numbers n a) (key_numbers n b)
unfolding key_cmp
order_is n a b h k = ap (ordering_then (nat_cmp a.time b.time)) (place_order n a.place b.place (a.number ∷ []) (b.number ∷ []) h k)
