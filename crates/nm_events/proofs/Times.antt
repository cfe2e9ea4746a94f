-- Keys of different times, and of one time.
use Rattle.std.proofs.Common.{◌≡◌, ◌^◌, ◌<◌, [], ◌∷◌, refl, sym, ap, ◌∙◌}
use Rattle.std.specs.Ordering.{nat_cmp, ordering_then}
use Rattle.std.specs.Cmp.Lexicographic.{slice_cmp}
use Rattle.std.proofs.Common.{Ordering, Less, Equal, Greater}
use Rattle.std.specs.Cmp.{nat_cmp_is}
use Rattle.nm_base.specs.declared.key.Key.{Key}
use Rattle.nm_base.specs.declared.key.Place.{Place}
use Rattle.nm_base.specs.declared.key.Place.TheVariants.{Arrive, Complete, Fire}
use Rattle.nm_base.specs.Key.{IsPlaceOf, index_of, key_cmp, place_number}
use Rattle.nm_base.proofs.Order.{order_is}

pub earlier : (a b : Key) → a.time < b.time → Less ≡ key_cmp a b
unfolding key_cmp
earlier a b h = rw (← nat_cmp_is a.time b.time Less h) refl

pub later : (a b : Key) → b.time < a.time → Greater ≡ key_cmp a b
unfolding key_cmp
later a b h = rw (← nat_cmp_is a.time b.time Greater h) refl

-- the place of a key is one that a number of 32 bits can name
placed : (p : Place) → index_of p < 2 ^ 32 → IsPlaceOf (2 ^ 32) p
placed (Arrive i) h = h
placed (Complete i) h = h
placed (Fire j) h = tt

-- keys of one time are ordered by the numbers of their places, and then by their own
module _ (a b : Key) (same : a.time ≡ b.time) (low : index_of a.place < 2 ^ 32) (also : index_of b.place < 2 ^ 32) where
  codes : key_cmp a b ≡ ordering_then (nat_cmp (place_number (2 ^ 32) a.place) (place_number (2 ^ 32) b.place)) (ordering_then (nat_cmp a.number b.number) Equal)
  codes = order_is (2 ^ 32) a b (placed a.place low) (placed b.place also)
      ∙ ap (λ r. ordering_then r (slice_cmp nat_cmp (place_number (2 ^ 32) a.place ∷ a.number ∷ []) (place_number (2 ^ 32) b.place ∷ b.number ∷ []))) (sym (nat_cmp_is a.time b.time Equal same))

  pub before_at : place_number (2 ^ 32) a.place < place_number (2 ^ 32) b.place → Less ≡ key_cmp a b
  before_at h = sym (codes ∙ ap (λ r. ordering_then r (ordering_then (nat_cmp a.number b.number) Equal)) (sym (nat_cmp_is _ _ Less h)))

  pub behind_at : place_number (2 ^ 32) b.place < place_number (2 ^ 32) a.place → Greater ≡ key_cmp a b
  behind_at h = sym (codes ∙ ap (λ r. ordering_then r (ordering_then (nat_cmp a.number b.number) Equal)) (sym (nat_cmp_is _ _ Greater h)))

  pub there_at : place_number (2 ^ 32) a.place ≡ place_number (2 ^ 32) b.place → nat_cmp a.number b.number ≡ key_cmp a b
  there_at h = sym (codes ∙ ap (λ r. ordering_then r (ordering_then (nat_cmp a.number b.number) Equal)) (sym (nat_cmp_is _ _ Equal h)) ∙ at_last (nat_cmp a.number b.number))
    where
      at_last : (r : Ordering) → ordering_then r Equal ≡ r
      at_last Less = refl
      at_last Equal = refl
      at_last Greater = refl
