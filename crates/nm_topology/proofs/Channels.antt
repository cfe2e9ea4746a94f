-- The interfaces that receive channels, and the numbers of channels.
use Rattle.std.proofs.Common.{◌≡◌, ◌≢◌, ◌↔◌, All, Contains, ℕ, zero, suc, ◌+◌, ◌<◌, ◌≤◌, ◌==◌, ◌&&◌}
use Rattle.std.proofs.Common.{Bool, true, false, not, cond, List, [], ◌∷◌, length, filter, get_or}
use Rattle.std.proofs.Common.{AllPairs, Some, refl, sym, ap, ◌∙◌, subst, arith, ⊎_elim}
use Rattle.std.specs.Prelude.{slice_get}
use Rattle.std.specs.List.Sorted.{IsStrictlyIncreasing}
use Rattle.std.proofs.lemmas.Bool.Decides.{nat_tests}
use Rattle.std.proofs.lemmas.List.Elements.{All-cons, All-weaker, All-filter, All-contains}
use Rattle.std.proofs.lemmas.List.Elements.{All-contains_itself, Contains-get_or, filter_passes}
use Rattle.std.proofs.lemmas.List.Kept.{AllPairs-from_increasing, IsStrictlyIncreasing-filter}
use Rattle.std.proofs.lemmas.Option.{slice_get_cases, get_or_from_slice_get, slice_get_within}
use Rattle.nm_topology.specs.declared.parts.Far.{Far}
use Rattle.nm_topology.specs.declared.parts.Link.{Link}
use Rattle.nm_topology.specs.PartValues.{NodeValue, IfaceValue}
use Rattle.nm_topology.specs.Build.{numbers_from, far_by_links, part_of, far_end_at, is_receiver}
use Rattle.nm_topology.specs.Build.{receivers_of}
use Rattle.nm_topology.specs.Validate.{uses, is_undelayed_cut}
use Rattle.nm_topology.specs.Accepted.{parts_of, owners_of, partition_at, IsInOrder, IsReceiver}
use Rattle.nm_topology.specs.Accepted.{AreReceivers}
use Rattle.nm_topology.specs.Topology.{channel_from}
use Rattle.nm_topology.proofs.Ends.{far-a, far-b, far-on, uses-on}
use Rattle.nm_topology.proofs.Uses.{same_or_not}
use Rattle.nm_topology.proofs.Wires.{is_same, is_other}

numbers-count : (n j : ℕ) → length (numbers_from j n) ≡ n
numbers-count zero j = refl
numbers-count (suc n) j = ap suc (numbers-count n (suc j))

numbers-get : (n j k d : ℕ) → k < n → get_or (numbers_from j n) k d ≡ j + k
numbers-get zero j k d h = absurd (omega arith)
numbers-get (suc n) j zero d h = omega arith
numbers-get (suc n) j (suc k) d h = numbers-get n (suc j) k d (omega arith) ∙ omega arith

numbers-rise : (n : ℕ) → IsStrictlyIncreasing (numbers_from 0 n)
numbers-rise n k h =
    let inside : k + 1 < n = omega (arith, numbers-count n 0) in
    omega (arith, numbers-get n 0 k 0 (omega arith), numbers-get n 0 (k + 1) 0 inside)

-- an element that passes is kept
module _ {X : Type 0} (p : X → Bool) where
  one_more : (b : Bool) (x y : X) (xs : List X) → Contains xs y → Contains (cond b (x ∷ xs) xs) y
  one_more true x y xs c = (suc c.0, omega (arith, c.1), c.2)
  one_more false x y xs c = c

  first_kept : (b : Bool) (x : X) (xs : List X) → b ≡ true → Contains (cond b (x ∷ xs) xs) x
  first_kept true x xs e = (0, omega arith, refl)
  first_kept false x xs e = cc

  all_kept : (xs : List X) → All (λ y. p y ≡ true → Contains (filter p xs) y) xs
  all_kept [] = λ k d h. absurd (omega arith)
  all_kept (x ∷ xs) =
      All-cons (λ y. p y ≡ true → Contains (filter p (x ∷ xs)) y) x xs (first_kept (p x) x (filter p xs))
      (All-weaker (λ y. p y ≡ true → Contains (filter p xs) y) (λ y. p y ≡ true → Contains (filter p (x ∷ xs)) y)
      (λ y h e. one_more (p x) x y (filter p xs) (h e)) xs (all_kept xs))

  kept : (xs : List X) (y : X) → Contains xs y → p y ≡ true → Contains (filter p xs) y
  kept xs y c = All-contains (λ z. p z ≡ true → Contains (filter p xs) z) xs y (all_kept xs) c

  was_there : (xs : List X) (y : X) → Contains (filter p xs) y → Contains xs y
  was_there xs y c = All-contains (Contains xs) (filter p xs) y (All-filter p (Contains xs) xs (All-contains_itself xs)) c

  passes : (xs : List X) (y : X) → Contains (filter p xs) y → p y ≡ true
  passes xs y c = All-contains (λ z. p z ≡ true) (filter p xs) y (filter_passes p xs) c

-- the numbers below n that pass
below : (n i : ℕ) → Contains (numbers_from 0 n) i → i < n
below n i c = omega (arith, numbers-count n 0, numbers-get n 0 c.0 i (omega (arith, c.1, numbers-count n 0)), c.1, c.2)

among : (n i : ℕ) → i < n → Contains (numbers_from 0 n) i
among n i h = (i, omega (arith, numbers-count n 0), numbers-get n 0 i i h ∙ omega arith)

-- a link between partitions delays by something
delays : (d a b : ℕ) → ((d == 0) && not (a == b)) ≡ false → (b ≡ a → ⊥) → 1 ≤ d
delays d a b e h = grind (arith, nat_tests)

module _ (parts owners : List ℕ) where
  pub cut-delays : (ls : List Link) (i : ℕ) → 1 ≤ uses i ls → All (λ l. is_undelayed_cut parts owners l ≡ false) ls
      → (part_of parts owners (far_by_links i ls).iface ≡ part_of parts owners i → ⊥) → 1 ≤ (far_by_links i ls).delay
  cut-delays [] i used a = absurd (omega arith)
  cut-delays (l ∷ ls) i used a =
      let P : Far → Type 0 = λ f. (part_of parts owners f.iface ≡ part_of parts owners i → ⊥) → 1 ≤ f.delay in
      let here : is_undelayed_cut parts owners l ≡ false = a 0 l (omega arith) in
      ⊎_elim
      (λ e. subst P (sym (far-a l ls i e)) (λ h. delays l.delay (part_of parts owners l.a) (part_of parts owners l.b) here (λ g. h (g ∙ ap (part_of parts owners) e))))
      (λ e. ⊎_elim
      (λ f. subst P (sym (far-b l ls i e f)) (λ h. delays l.delay (part_of parts owners l.a) (part_of parts owners l.b) here (λ g. h (sym g ∙ ap (part_of parts owners) f))))
      (λ f. subst P (sym (far-on l ls i e f)) (cut-delays ls i (subst (λ n. 1 ≤ n) (uses-on l ls i e f) used) (λ k d h. a (suc k) d (omega arith))))
      (same_or_not l.b i))
      (same_or_not l.a i)

differs : (a b : ℕ) → not (a == b) ≡ true → b ≡ a → ⊥
differs a b e h = grind (arith, nat_tests)

is_different : (a b : ℕ) → (b ≡ a → ⊥) → not (a == b) ≡ true
is_different a b h = grind (arith, nat_tests)

module _ (nodes : List NodeValue) (ifaces : List IfaceValue) (links : List Link) (far : List Far)
    (order : IsInOrder nodes ifaces links)
    (count : length ifaces ≡ length far)
    (fars : (i : ℕ) (x : IfaceValue) → slice_get ifaces i ≡ Some x → slice_get far i ≡ Some x.far) where
  abbrev test : ℕ → Bool
  test = is_receiver (parts_of nodes) (owners_of ifaces) far

  abbrev receivers : List ℕ
  receivers = receivers_of (parts_of nodes) (owners_of ifaces) far

  far_end_is : (i : ℕ) (x : IfaceValue) → slice_get ifaces i ≡ Some x → far_end_at far i ≡ x.far.iface
  far_end_is i x h = ap (λ f. f.iface) (get_or_from_slice_get far i x.far (far_by_links i []) (fars i x h))

  comes : (i : ℕ) → Contains receivers i → IsReceiver nodes ifaces i
  comes i c =
      let inside : i < length ifaces = omega (arith, count, below (length far) i (was_there test (numbers_from 0 (length far)) i c)) in
      let passed : test i ≡ true = passes test (numbers_from 0 (length far)) i c in
      ⊎_elim
      (λ s. (
        s.0,
        s.2,
        subst (λ p. partition_at nodes ifaces p ≢ partition_at nodes ifaces i) (far_end_is i s.0 s.2)
            (differs (partition_at nodes ifaces i) (partition_at nodes ifaces (far_end_at far i)) passed),
      ))
      (λ s. absurd (omega (arith, s.0, inside)))
      (slice_get_cases ifaces i).1

  receives : (i : ℕ) → IsReceiver nodes ifaces i → Contains receivers i
  receives i r =
      let inside : i < length far = omega (arith, count, slice_get_within ifaces i r.0 r.1) in
      kept test (numbers_from 0 (length far)) i (among (length far) i inside)
      (is_different (partition_at nodes ifaces i) (partition_at nodes ifaces (far_end_at far i))
      (subst (λ p. partition_at nodes ifaces p ≢ partition_at nodes ifaces i) (sym (far_end_is i r.0 r.1)) r.2))

  delayed : (i : ℕ) (x : IfaceValue) → slice_get ifaces i ≡ Some x → Contains receivers i → 1 ≤ x.far.delay
  delayed i x h c =
      let linked = order.linked i x h in
      let cut = differs (partition_at nodes ifaces i) (partition_at nodes ifaces (far_end_at far i)) (passes test (numbers_from 0 (length far)) i c) in
      let apart : partition_at nodes ifaces (far_by_links i links).iface ≢ partition_at nodes ifaces i =
      subst (λ p. partition_at nodes ifaces p ≢ partition_at nodes ifaces i) (far_end_is i x h ∙ ap (λ f. f.iface) linked.far) cut in
      subst (λ f. 1 ≤ f.delay) (sym linked.far)
      (cut-delays (parts_of nodes) (owners_of ifaces) links i (omega (arith, linked.once)) order.cuts apart)

  pub are_receivers : AreReceivers nodes ifaces receivers
  are_receivers = record {
    rising = IsStrictlyIncreasing-filter test (numbers_from 0 (length far)) (numbers-rise (length far));
    exactly = λ i. (comes i, receives i);
    delayed = delayed;
  }

-- the channel that comes in at an interface is found by it
pub found-at : (rs : List ℕ) (n i c : ℕ) → channel_from n rs i ≡ Some c → (k : ℕ) × (c ≡ n + k) × (slice_get rs k ≡ Some i)
found-at [] n i c e = cc
found-at (r ∷ rs) n i c e =
    ⊎_elim
    (λ s. let h : Some n ≡ Some c = sym (ap (λ b. cond b (Some n) (channel_from (suc n) rs i)) (is_same r i s)) ∙ e in
    let m : n ≡ c = cc in (0, omega arith, ap Some s))
    (λ s. let h = found-at rs (suc n) i c (sym (ap (λ b. cond b (Some n) (channel_from (suc n) rs i)) (is_other r i s)) ∙ e) in
    (suc h.0, omega (arith, h.1), h.2))
    (same_or_not r i)

pub at-found : (rs : List ℕ) (n i k : ℕ) → AllPairs (λ x y. x < y) rs → slice_get rs k ≡ Some i → channel_from n rs i ≡ Some (n + k)
at-found [] n i k a e = cc
at-found (r ∷ rs) n i zero a e =
    let s : r ≡ i = cc in
    ap (λ b. cond b (Some n) (channel_from (suc n) rs i)) (is_same r i s) ∙ ap Some (omega arith)
at-found (r ∷ rs) n i (suc k) a e =
    let inside = slice_get_within rs k i e in
    let later : r < get_or rs k i = a 0 (suc k) i (omega arith) (omega arith) in
    let s : r ≡ i → ⊥ = λ h. omega (arith, later, get_or_from_slice_get rs k i i e, h) in
    ap (λ b. cond b (Some n) (channel_from (suc n) rs i)) (is_other r i s)
    ∙ at-found rs (suc n) i k (λ x y d l w. a (suc x) (suc y) d (omega arith) (omega arith)) e ∙ ap Some (omega arith)

past : (xs : List ℕ) (c d : ℕ) → length xs ≤ c → get_or xs c d ≡ d
past [] c d l = refl
past (x ∷ xs) zero d l = absurd (omega arith)
past (x ∷ xs) (suc c) d l = past xs c d (omega arith)

pub comes_nowhere : (rs : List ℕ) (count c : ℕ) → length rs ≤ c → get_or rs c count ≡ count
comes_nowhere rs count c h = past rs c count h

pub numbered : (rs : List ℕ) (count : ℕ) → IsStrictlyIncreasing rs → (i c : ℕ) → i < count
    → (channel_from 0 rs i ≡ Some c) ↔ (get_or rs c count ≡ i)
numbered rs count rising i c h = (
  (λ e. let f = found-at rs 0 i c e in let m : c ≡ f.0 = omega (arith, f.1) in
      get_or_from_slice_get rs c i count (ap (slice_get rs) m ∙ f.2)),
  (λ e. ⊎_elim
      (λ s. let same : s.0 ≡ i = sym (get_or_from_slice_get rs c s.0 count s.2) ∙ e in
      at-found rs 0 i c (AllPairs-from_increasing rs rising) (s.2 ∙ ap Some same) ∙ ap Some (omega arith))
      (λ s. absurd (omega (arith, past rs c count s.0, e, h)))
      (slice_get_cases rs c).1),
)

-- a channel that there is comes in at an interface that there is
pub comes_in : (nodes : List NodeValue) (ifaces : List IfaceValue) (rs : List ℕ) → AreReceivers nodes ifaces rs
    → (c : ℕ) → c < length rs → get_or rs c (length ifaces) < length ifaces
comes_in nodes ifaces rs are c h =
    let i = get_or rs c (length ifaces) in
    let r = (are.exactly i).0 (Contains-get_or rs c (length ifaces) h) in
    slice_get_within ifaces i r.0 r.1
