-- How many tags in the network pass a test, one step later.
use Rattle.std.proofs.Common.{◌≡◌, ℕ, zero, suc, ◌+◌, ◌<◌, ◌≤◌, Bool, cond, List, [], ◌∷◌, ◌++◌, count_by, refl, ap, ◌∙◌, arith, ⊎_elim}
use Rattle.std.proofs.lemmas.List.Sums.{sum_by-cons, sum_by_push}
use Rattle.nm_model.proofs.ListLemmas.{same_number, set_here, set_there}
use Rattle.nm_model.specs.Lists.{set_at}
use Rattle.nm_model.specs.declared.offering.Offering.{Offering}
use Rattle.nm_model.specs.declared.offering.Offering.TheVariants.{Nothing, Started, Waits, Dropped}
use Rattle.nm_measure.specs.declared.tag.Tag.{Tag}
use Rattle.nm_measure.specs.Courses.{tags_in}
use Rattle.nm_measure.specs.Lanes.{CanBe, with_offer}

module _ (p : Tag → Bool) where
  abbrev pub tags_at : List Tag × List Tag → ℕ
  tags_at l = count_by p l.0 + count_by p l.1

  abbrev pub one_if : Tag → ℕ
  one_if tag = cond (p tag) 1 0

  tags_push : (l : List Tag) (tag : Tag) → count_by p (l ++ tag ∷ []) ≡ count_by p l + one_if tag
  tags_push l tag = sum_by_push (λ x. cond (p x) 1 0) l tag

  pub tags_cons : (tag : Tag) (l : List Tag) → count_by p (tag ∷ l) ≡ one_if tag + count_by p l
  tags_cons tag l = sum_by-cons (λ x. cond (p x) 1 0) tag l

  pub tags_as : (count : ℕ) (all new : ℕ → List Tag × List Tag) → ((i : ℕ) → all i ≡ new i) → tags_in p count all ≡ tags_in p count new
  tags_as zero all new same = refl
  tags_as (suc i) all new same = (λ j. tags_as i all new same j + tags_at (same i j))

  tags_past : (count i : ℕ) (all : ℕ → List Tag × List Tag) (l : List Tag × List Tag) → count ≤ i → tags_in p count (set_at all i l) ≡ tags_in p count all
  tags_past zero i all l past = refl
  tags_past (suc k) i all l past =
      (λ j. tags_past k i all l (omega (arith, past)) j + tags_at (set_there all i l k (λ e. omega (arith, e, past)) j))

  -- one lane changes
  pub tags_set : (count i : ℕ) (all : ℕ → List Tag × List Tag) (l : List Tag × List Tag) → i < count
      → tags_in p count (set_at all i l) + tags_at (all i) ≡ tags_in p count all + tags_at l
  tags_set zero i all l low = absurd (omega (arith, low))
  tags_set (suc k) i all l low = ⊎_elim
      (λ (eq : k ≡ i).
      let a = tags_past k i all l (omega (arith, eq)) in
      let b : tags_at (set_at all i l k) ≡ tags_at l = ap (λ n. tags_at (set_at all i l n)) eq ∙ ap tags_at (set_here all i l) in
      let c : tags_at (all k) ≡ tags_at (all i) = ap (λ n. tags_at (all n)) eq in
      omega (arith, a, b, c))
      (λ apart.
      let a = tags_set k i all l (omega (arith, low, apart)) in
      let b : tags_at (set_at all i l k) ≡ tags_at (all k) = ap tags_at (set_there all i l k apart) in
      omega (arith, a, b))
      (same_number k i)

  -- a packet leaves a link
  pub tags_left : (count i : ℕ) (all : ℕ → List Tag × List Tag) (tag : Tag) (on : List Tag) → i < count → (all i).0 ≡ tag ∷ on
      → tags_in p count all ≡ one_if tag + tags_in p count (set_at all i (on, (all i).1))
  tags_left count i all tag on low first =
      let a = tags_set count i all (on, (all i).1) low in
      let b = ap (count_by p) first in
      let c = tags_cons tag on in
      omega (arith, a, b, c)

  -- the first that waits starts
  pub tags_next : (count i : ℕ) (all : ℕ → List Tag × List Tag) (tag : Tag) (waits : List Tag) → i < count → (all i).1 ≡ tag ∷ waits
      → (tags_in p count (set_at all i ((all i).0 ++ tag ∷ [], waits)) ≡ tags_in p count all) × (one_if tag ≤ tags_in p count all)
  tags_next count i all tag waits low first =
      let a = tags_set count i all ((all i).0 ++ tag ∷ [], waits) low in
      let b = ap (count_by p) first in
      let c = tags_cons tag waits in
      let d = tags_push (all i).0 tag in
      let e = tags_set count i all ([], []) low in
      (omega (arith, a, b, c, d), omega (arith, b, c, e))

  -- what is sent becomes so
  abbrev pub dropped_one : Offering → Tag → ℕ
  dropped_one Nothing tag = 0
  dropped_one (Started i) tag = 0
  dropped_one (Waits i) tag = 0
  dropped_one (Dropped i) tag = one_if tag

  pub tags_offered : (count : ℕ) (all : ℕ → List Tag × List Tag) (o : Offering) (tag : Tag) → CanBe count all o → (o ≡ Nothing → one_if tag ≡ 0)
      → one_if tag + tags_in p count all ≡ dropped_one o tag + tags_in p count (with_offer o tag all)
  tags_offered count all Nothing tag can none = let z = none refl in omega (arith, z)
  tags_offered count all (Started i) tag can none =
      let a = tags_set count i all ((all i).0 ++ tag ∷ [], (all i).1) can.0 in
      let d = tags_push (all i).0 tag in
      omega (arith, a, d)
  tags_offered count all (Waits i) tag can none =
      let a = tags_set count i all ((all i).0, (all i).1 ++ tag ∷ []) can in
      let d = tags_push (all i).1 tag in
      omega (arith, a, d)
  tags_offered count all (Dropped i) tag can none = refl

-- there is nothing yet
pub tags_first : (p : Tag → Bool) (count : ℕ) → tags_in p count (λ i. ([], [])) ≡ 0
tags_first p zero = refl
tags_first p (suc i) = let h = tags_first p i in omega (arith, h)
