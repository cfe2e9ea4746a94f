-- What was delivered in a step, by what was delivered before it and after it.
use Rattle.std.proofs.Common.{◌≡◌, ℕ, zero, suc, ◌+◌, ◌-◌, ◌*◌, ◌/◌, ◌^◌, ◌<◌, ◌≤◌, max, min, Bool, true, false, cond, List, [], ◌∷◌, ◌++◌, length, map, drop, fold, sum, count_by, length-append, append_assoc, append-nil, refl, sym, ap, ◌∙◌, subst, arith}
use Rattle.std.specs.Int.{abs_diff}
use Rattle.std.proofs.Math.Nat.{div-le_of_le-mul}
use Rattle.std.proofs.Math.Seq.{drop-append_seam}
use Rattle.std.proofs.lemmas.List.{length-map, map-append}
use Rattle.std.proofs.lemmas.List.Sums.{fold-append, sum_by-append, sum_by-cons}
use Rattle.nm_base.specs.Count.{saturated}
use Rattle.nm_model.specs.EventList.{least}
use Rattle.nm_model.specs.Lists.{keep_where}
use Rattle.nm_model.proofs.ListLemmas.{kept-append}
use Rattle.nm_topology.specs.TopologyValue.{TopologyValue}
use Rattle.nm_measure.specs.Counted.{delays_of, ended_so, how_many}
use Rattle.nm_measure.specs.Sums.{differences_of, greatest_of, mean_of, sum_to}
use Rattle.nm_measure.specs.Ways.{WayEnd, ends_in, ends_next, tagged_list}
use Rattle.nm_measure.specs.declared.flow_counts.PacketOutcome.TheVariants.{Delivered}
use Rattle.nm_measure.proofs.Added.{differences_count, differences_most, fits_once, sum_most}

greatest_more : (a b : ℕ) (ds : List ℕ) → a ≤ b → fold max a ds ≤ fold max b ds
greatest_more a b [] h = h
greatest_more a b (d ∷ ds) h = greatest_more (max a d) (max b d) ds (omega (arith, h))

sum_fits : (ds : List ℕ) → greatest_of ds < 2 ^ 64 → length ds ≤ 2 ^ 63 → sum ds ≤ 340282366920938463463374607431768211455
sum_fits ds fits few = let m = sum_most 0 ds 18446744073709551615 (omega (arith, fits)) in omega (arith, m, few)

sums_apart : (all old more : ℕ) → all ≡ old + more → all ≤ 340282366920938463463374607431768211455
    → min all 340282366920938463463374607431768211455 - min old 340282366920938463463374607431768211455 ≡ more
sums_apart all old more is few = omega (arith, is, few)

module _ (old more : List ℕ) (fits : greatest_of (old ++ more) < 2 ^ 64) (few : length (old ++ more) ≤ 2 ^ 63) where
  all_most : fold max 0 (old ++ more) ≤ 18446744073709551615
  all_most = omega (arith, fits)

  -- the mean of the delays of a step
  mean_apart : saturated ((sum_to (old ++ more) - sum_to old) / (length (old ++ more) - length old)) ≡ mean_of (drop (length old) (old ++ more))
  mean_apart =
      let l = length-append old more in
      let count : length (old ++ more) - length old ≡ length more = omega (arith, l) in
      let total : sum_to (old ++ more) - sum_to old ≡ sum more = sums_apart (sum (old ++ more)) (sum old) (sum more) (sum_by-append (λ x. x) old more) (sum_fits (old ++ more) fits few) in
      let joined = fold-append max 0 old more in
      let most : fold max 0 more ≤ 18446744073709551615 = let g = greatest_more 0 (fold max 0 old) more (omega arith) in let a = all_most in omega (arith, g, joined, a) in
      (λ i. saturated (total i / count i))
      ∙ fits_once (sum more / length more) (div-le_of_le-mul (length more) (sum_most 0 more 18446744073709551615 most))
      ∙ ap mean_of (sym (drop-append_seam old more))

  split : (before : ℕ) (xs ys : List ℕ) → fold max before (xs ++ ys) ≤ 18446744073709551615
      → (late : List ℕ) × (differences_of (xs ++ ys) ≡ differences_of xs ++ late) × (sum late ≤ length late * 18446744073709551615)
  split before [] ys h = (differences_of ys, refl, differences_most before ys 18446744073709551615 h)
  split before (d ∷ []) ys h = (differences_of (d ∷ ys), refl, differences_most before (d ∷ ys) 18446744073709551615 h)
  split before (d ∷ e ∷ ds) ys h = let r = split (max before d) (e ∷ ds) ys h in (r.0, ap (λ l. abs_diff e d ∷ l) r.1, r.2)

  -- the mean of how much each differs from the one before it
  jitter_apart : saturated ((sum_to (differences_of (old ++ more)) - sum_to (differences_of old)) / (length (old ++ more) - max (length old) 1))
      ≡ mean_of (drop (length (differences_of old)) (differences_of (old ++ more)))
  jitter_apart =
      let r = split 0 old more all_most in
      let l = length-append (differences_of old) r.0 in
      let is = ap length r.1 in
      let all = differences_count (old ++ more) in
      let first = differences_count old in
      let joined = length-append old more in
      let count : length (old ++ more) - max (length old) 1 ≡ length r.0 = omega (arith, l, is, all, first, joined) in
      let most = differences_most 0 (old ++ more) 18446744073709551615 all_most in
      let within : sum (differences_of (old ++ more)) ≤ 340282366920938463463374607431768211455 = omega (arith, most, all, few) in
      let total : sum_to (differences_of (old ++ more)) - sum_to (differences_of old) ≡ sum r.0 =
      sums_apart (sum (differences_of (old ++ more))) (sum (differences_of old)) (sum r.0) (ap sum r.1 ∙ sum_by-append (λ x. x) (differences_of old) r.0) within in
      (λ i. saturated (total i / count i))
      ∙ fits_once (sum r.0 / length r.0) (div-le_of_le-mul (length r.0) r.2)
      ∙ ap mean_of (sym (ap (drop (length (differences_of old))) r.1 ∙ drop-append_seam (differences_of old) r.0))

-- of two lists, the first of which is the begin of the second
pub mean_late : (old new more : List ℕ) → new ≡ old ++ more → greatest_of new < 2 ^ 64 → length new ≤ 2 ^ 63
    → saturated ((sum_to new - sum_to old) / (length new - length old)) ≡ mean_of (drop (length old) new)
mean_late old new more is fits few = subst (λ l. saturated ((sum_to l - sum_to old) / (length l - length old)) ≡ mean_of (drop (length old) l)) (sym is)
    (mean_apart old more (subst (λ l. greatest_of l < 2 ^ 64) is fits) (subst (λ l. length l ≤ 2 ^ 63) is few))

pub jitter_late : (old new more : List ℕ) → new ≡ old ++ more → greatest_of new < 2 ^ 64 → length new ≤ 2 ^ 63
    → saturated ((sum_to (differences_of new) - sum_to (differences_of old)) / (length new - max (length old) 1)) ≡ mean_of (drop (length (differences_of old)) (differences_of new))
jitter_late old new more is fits few = subst (λ l. saturated ((sum_to (differences_of l) - sum_to (differences_of old)) / (length l - max (length old) 1)) ≡ mean_of (drop (length (differences_of old)) (differences_of l))) (sym is)
    (jitter_apart old more (subst (λ l. greatest_of l < 2 ^ 64) is fits) (subst (λ l. length l ≤ 2 ^ 63) is few))

-- how many were delivered
pub many_delivered : (j : ℕ) (ends : List WayEnd) → how_many j Delivered ends ≡ length (delays_of j ends)
many_delivered j ends = counted (ended_so j Delivered) ends ∙ sym (length-map (keep_where (ended_so j Delivered) ends) (λ (e : WayEnd). e.time - e.tag.at))
  where
    counted : {X : Type 0} (p : X → Bool) (xs : List X) → count_by p xs ≡ length (keep_where p xs)
    counted p [] = refl
    counted p (x ∷ xs) = sum_by-cons (λ y. cond (p y) 1 0) x xs ∙ ap (λ n. cond (p x) 1 0 + n) (counted p xs) ∙ one (p x) (keep_where p xs)
      where
        one : (b : Bool) (l : List _) → cond b 1 0 + length l ≡ length (cond b (x ∷ l) l)
        one true l = omega arith
        one false l = omega arith

-- delays of fewer events are the first of those of more
pub delays_later : (t : TopologyValue) (j n m : ℕ) → n ≤ m → (more : List ℕ) × (delays_of j (ends_in t m) ≡ delays_of j (ends_in t n) ++ more)
delays_later t j n m le =
    let k = m - n in
    let same : k + n ≡ m = omega (arith, le) in
    let g = grown k in (
      delays_of j g.0,
      ap (λ i. delays_of j (ends_in t i)) (sym same) ∙ ap (delays_of j) g.1 ∙ joined (ends_in t n) g.0,
    )
  where
    grown : (k : ℕ) → (more : List WayEnd) × (ends_in t (k + n) ≡ ends_in t n ++ more)
    grown zero = let same : 0 + n ≡ n = omega arith in ([], ap (ends_in t) same ∙ sym (append-nil (ends_in t n)))
    grown (suc k) =
        let g = grown k in
        let same : suc k + n ≡ suc (k + n) = omega arith in
        let next = ends_next t (tagged_list t (k + n)) (least (tagged_list t (k + n)).pending) in
        (g.0 ++ next, ap (ends_in t) same ∙ ap (λ l. l ++ next) g.1 ∙ append_assoc (ends_in t n) g.0 next)

    joined : (a b : List WayEnd) → delays_of j (a ++ b) ≡ delays_of j a ++ delays_of j b
    joined a b = ap (map (λ (e : WayEnd). e.time - e.tag.at)) (kept-append (ended_so j Delivered) a b)
        ∙ map-append (λ (e : WayEnd). e.time - e.tag.at) (keep_where (ended_so j Delivered) a) (keep_where (ended_so j Delivered) b)
