-- Lists whose numbers rise.
use Rattle.std.proofs.Common.{ℕ, zero, suc, ◌<◌, ◌≤◌, List, [], ◌∷◌, map, length, get_or, insert, arith}
use Rattle.std.specs.List.Sorted.{IsNonDecreasingBy}
use Rattle.nm_measure.specs.Rising.{AllAbove, Rise}

module _ {X : Type 0} (f : X → ℕ) where
  above_at : (k : ℕ) (xs : List X) (i : ℕ) (d : X) → AllAbove k (map f xs) → i < length xs → k < f (get_or xs i d)
  above_at k [] i d h low = absurd (omega (arith, low))
  above_at k (x ∷ xs) zero d h low = h.0
  above_at k (x ∷ xs) (suc i) d h low = above_at k xs i d h.1 (omega (arith, low))

  -- they do not fall
  pub rise_climbs : (xs : List X) → Rise (map f xs) → IsNonDecreasingBy f xs
  rise_climbs [] rise i j d le lt = absurd (omega (arith, lt))
  rise_climbs (x ∷ xs) rise zero zero d le lt = omega arith
  rise_climbs (x ∷ xs) rise zero (suc j) d le lt = let up = above_at (f x) xs j d rise.0 (omega (arith, lt)) in omega (arith, up)
  rise_climbs (x ∷ xs) rise (suc i) zero d le lt = absurd (omega (arith, le))
  rise_climbs (x ∷ xs) rise (suc i) (suc j) d le lt = rise_climbs xs rise.1 i j d (omega (arith, le)) (omega (arith, lt))

  -- a later one is greater
  pub rise_apart : (xs : List X) (i j : ℕ) (d : X) → i < j → j < length xs → Rise (map f xs) → f (get_or xs i d) < f (get_or xs j d)
  rise_apart [] i j d lt low rise = absurd (omega (arith, low))
  rise_apart (x ∷ xs) i zero d lt low rise = absurd (omega (arith, lt))
  rise_apart (x ∷ xs) zero (suc j) d lt low rise = above_at (f x) xs j d rise.0 (omega (arith, low))
  rise_apart (x ∷ xs) (suc i) (suc j) d lt low rise = rise_apart xs i j d (omega (arith, lt)) (omega (arith, low)) rise.1

  above_all : (m : ℕ) (xs : List X) → ((k : ℕ) (d : X) → k < length xs → m < f (get_or xs k d)) → AllAbove m (map f xs)
  above_all m [] h = tt
  above_all m (x ∷ xs) h = (h 0 x (omega arith), above_all m xs (λ k d low. h (suc k) d (omega (arith, low))))

  pub rise_from : (xs : List X) → ((i j : ℕ) (d : X) → i < j → j < length xs → f (get_or xs i d) < f (get_or xs j d)) → Rise (map f xs)
  rise_from [] h = tt
  rise_from (x ∷ xs) h = (above_all (f x) xs (λ k d low. h 0 (suc k) d (omega arith) (omega (arith, low))), rise_from xs (λ i j d l m. h (suc i) (suc j) d (omega (arith, l)) (omega (arith, m))))

  above_inserted : (m : ℕ) (xs : List X) (i : ℕ) (y : X) → i ≤ length xs → AllAbove m (map f xs) → m < f y → AllAbove m (map f (insert xs i y))
  above_inserted m [] zero y low h up = (up, tt)
  above_inserted m [] (suc i) y low h up = absurd (omega (arith, low))
  above_inserted m (x ∷ xs) zero y low h up = (up, h)
  above_inserted m (x ∷ xs) (suc i) y low h up = (h.0, above_inserted m xs i y (omega (arith, low)) h.1 up)

  -- one more between those that are less and those that are greater
  pub rise_inserted : (xs : List X) (i : ℕ) (y : X) → i ≤ length xs → Rise (map f xs) → ((k : ℕ) (d : X) → k < i → k < length xs → f (get_or xs k d) < f y)
      → ((k : ℕ) (d : X) → i ≤ k → k < length xs → f y < f (get_or xs k d)) → Rise (map f (insert xs i y))
  rise_inserted [] zero y low rise before behind = (tt, tt)
  rise_inserted [] (suc i) y low rise before behind = absurd (omega (arith, low))
  rise_inserted (x ∷ xs) zero y low rise before behind = (above_all (f y) (x ∷ xs) (λ k d lt. behind k d (omega arith) lt), rise)
  rise_inserted (x ∷ xs) (suc i) y low rise before behind = (
    above_inserted (f x) xs i y (omega (arith, low)) rise.0 (before 0 x (omega arith) (omega arith)),
    rise_inserted xs i y (omega (arith, low)) rise.1 (λ k d l m. before (suc k) d (omega (arith, l)) (omega (arith, m))) (λ k d l m. behind (suc k) d (omega (arith, l)) (omega (arith, m))),
  )
