-- What is known of delays, with one delay more.
use Rattle.std.proofs.Common.{◌≡◌, ℕ, zero, suc, ◌+◌, ◌-◌, ◌*◌, ◌/◌, ◌^◌, ◌<◌, ◌≤◌, min, max, List, [], ◌∷◌, ◌++◌, length, drop, Result, Ok, Err, OnOk, fold, sum, refl, sym, ap, ◌∙◌, subst, arith, length-append, lit≤}
use Rattle.std.specs.Int.{abs_diff}
use Rattle.std.proofs.Math.Nat.{div-le_of_le-mul, mul-le-mul_right}
use Rattle.std.proofs.lemmas.List.{drop-append-le}
use Rattle.std.proofs.lemmas.List.Sums.{fold_push, sum_by-cons, sum_by_push}
use Rattle.nm_base.specs.Count.{saturated}
use Rattle.nm_measure.specs.Added.{AreAdded}
use Rattle.nm_measure.specs.Spread.{IsSpread}
use Rattle.nm_measure.specs.Sums.{AreSums, differences_of, greatest_of, jitter_of, last_of, least_after, least_of, mean_of, sum_to}
use Rattle.nm_measure.specs.declared.spread.Spread.{Spread}
use Rattle.nm_measure.specs.declared.sums.Sums.{Sums}

-- the first is no greater than the greatest
pub first_most : (d : ℕ) (ds : List ℕ) → d ≤ fold max d ds
first_most d [] = omega arith
first_most d (e ∷ ds) = let h = first_most (max d e) ds in omega (arith, h)

-- delays that are no greater than this, and their differences
pub sum_most : (before : ℕ) (ds : List ℕ) (most : ℕ) → fold max before ds ≤ most → sum ds ≤ length ds * most
sum_most before [] most h = omega arith
sum_most before (d ∷ ds) most h =
    let first = first_most (max before d) ds in
    let rest = sum_most (max before d) ds most h in
    let all : sum (d ∷ ds) ≡ d + sum ds = sum_by-cons (λ x. x) d ds in
    omega (arith, first, rest, all, h)

pub differences_most : (before : ℕ) (ds : List ℕ) (most : ℕ) → fold max before ds ≤ most
    → sum (differences_of ds) ≤ length (differences_of ds) * most
differences_most before [] most h = omega arith
differences_most before (d ∷ []) most h = omega arith
differences_most before (d ∷ e ∷ ds) most h =
    let first = first_most (max (max before d) e) ds in
    let rest = differences_most (max before d) (e ∷ ds) most h in
    let all : sum (differences_of (d ∷ e ∷ ds)) ≡ abs_diff e d + sum (differences_of (e ∷ ds)) =
    sum_by-cons (λ x. x) (abs_diff e d) (differences_of (e ∷ ds)) in
    omega (arith, first, rest, all, h)

pub differences_count : (ds : List ℕ) → length (differences_of ds) ≡ length ds - 1
differences_count [] = refl
differences_count (d ∷ []) = refl
differences_count (d ∷ e ∷ ds) = let h = differences_count (e ∷ ds) in omega (arith, h)

-- a mean of numbers that fit
fits_twice : (total count most : ℕ) → total ≤ count * 18446744073709551615 → count * 18446744073709551615 ≤ most
    → most ≤ 340282366920938463463374607431768211455 → min total 340282366920938463463374607431768211455 ≡ total
fits_twice total count most h few fits = omega arith

pub fits_once : (mean : ℕ) → mean ≤ 18446744073709551615 → min mean 18446744073709551615 ≡ mean
fits_once mean h = omega arith

mean_is : (total count : ℕ) → total ≤ count * 18446744073709551615 → count < 18446744073709551616
    → min (min total 340282366920938463463374607431768211455 / count) 18446744073709551615 ≡ total / count
mean_is total count most few =
    let low : count ≤ 18446744073709551615 = omega (arith, few) in
    let square : count * 18446744073709551615 ≤ 18446744073709551615 * 18446744073709551615 = mul-le-mul_right 18446744073709551615 low in
    let all : min total 340282366920938463463374607431768211455 ≡ total =
    fits_twice total count (18446744073709551615 * 18446744073709551615) most square (lit≤ tt) in
    let within : total / count ≤ 18446744073709551615 = div-le_of_le-mul count most in
    ap (λ n. min (n / count) 18446744073709551615) all ∙ fits_once (total / count) within

-- the means that are computed
count_is : (count n : ℕ) → count ≡ saturated n → n < 2 ^ 64 → count ≡ n
count_is count n e few = omega arith

pub mean_added : (ds : List ℕ) (t : Sums) (count : ℕ) → count ≡ saturated (length ds) → AreSums ds t → length ds < 2 ^ 64
    → saturated (t.total / count) ≡ mean_of ds
mean_added ds t count is h few =
    ap (λ n. saturated (n / count)) h.total ∙ ap (λ n. saturated (sum_to ds / n)) (count_is count (length ds) is few)
    ∙ mean_is (sum ds) (length ds) (sum_most 0 ds 18446744073709551615 (let f = h.fits in omega (arith, f))) few

pub jitter_added : (ds : List ℕ) (t : Sums) (count : ℕ) → count ≡ saturated (length ds) → AreSums ds t → length ds < 2 ^ 64
    → saturated (t.differences / (count - 1)) ≡ jitter_of ds
jitter_added ds t count is h few =
    let less : count - 1 ≡ length (differences_of ds) =
    ap (λ n. n - 1) (count_is count (length ds) is few) ∙ sym (differences_count ds) in
    ap (λ n. saturated (n / (count - 1))) h.differences ∙ ap (λ n. saturated (sum_to (differences_of ds) / n)) less
    ∙ mean_is (sum (differences_of ds)) (length (differences_of ds)) (differences_most 0 ds 18446744073709551615 (let f = h.fits in omega (arith, f)))
    (let f = differences_count ds in omega (arith, f, few))

-- one delay more
least_added : (ds : List ℕ) (count least d : ℕ) → count ≡ saturated (length ds) → least ≡ least_of ds → least_after count least d ≡ least_of (ds ++ d ∷ [])
least_added [] zero least d n e = refl
least_added [] (suc count) least d n e = absurd (omega arith)
least_added (x ∷ xs) zero least d n e = absurd (omega arith)
least_added (x ∷ xs) (suc count) least d n e = ap (λ m. min m d) e ∙ sym (fold_push min x xs d)

regroup : (new old rest before first more : ℕ) → new ≡ first + rest → old ≡ first + before → rest ≡ before + more → new ≡ old + more
regroup new old rest before first more n o r = omega arith

-- the differences of delays with one delay more
differences_push : (x : ℕ) (xs : List ℕ) (d : ℕ)
    → sum (differences_of ((x ∷ xs) ++ d ∷ [])) ≡ sum (differences_of (x ∷ xs)) + abs_diff d (last_of (x ∷ xs))
differences_push x [] d = refl
differences_push x (y ∷ ys) d = regroup _ _ _ _ (abs_diff y x) (abs_diff d (last_of (y ∷ ys)))
    (sum_by-cons (λ z. z) (abs_diff y x) (differences_of ((y ∷ ys) ++ d ∷ [])))
    (sum_by-cons (λ z. z) (abs_diff y x) (differences_of (y ∷ ys)))
    (differences_push y ys d)

-- the sum of the differences, with one delay more
abbrev pub differences_after : (count differences last d : ℕ) → ℕ
differences_after zero differences last d = differences
differences_after (suc count) differences last d = min (differences + abs_diff d last) 340282366920938463463374607431768211455

sum_after : (before more all : ℕ) → all ≡ before + more
    → min (min before 340282366920938463463374607431768211455 + more) 340282366920938463463374607431768211455 ≡ min all 340282366920938463463374607431768211455
sum_after before more all h = omega arith

differences_added : (ds : List ℕ) (count differences last d : ℕ) → count ≡ saturated (length ds) → differences ≡ sum_to (differences_of ds)
    → last ≡ last_of ds → differences_after count differences last d ≡ sum_to (differences_of (ds ++ d ∷ []))
differences_added [] zero differences last d n e f = e
differences_added [] (suc count) differences last d n e f = absurd (omega arith)
differences_added (x ∷ xs) zero differences last d n e f = absurd (omega arith)
differences_added (x ∷ xs) (suc count) differences last d n e f =
    ap (λ m. min (m + abs_diff d last) 340282366920938463463374607431768211455) e
    ∙ ap (λ m. min (sum_to (differences_of (x ∷ xs)) + abs_diff d m) 340282366920938463463374607431768211455) f
    ∙ sum_after (sum (differences_of (x ∷ xs))) (abs_diff d (last_of (x ∷ xs))) (sum (differences_of ((x ∷ xs) ++ d ∷ []))) (differences_push x xs d)

pub first_least : (count least d : ℕ) → count ≡ 0 → d ≡ least_after count least d
first_least zero least d h = refl
first_least (suc count) least d h = absurd (omega arith)

pub next_least : (count least d : ℕ) → (count ≡ 0 → ⊥) → min d least ≡ least_after count least d
next_least zero least d h = absurd (h refl)
next_least (suc count) least d h = omega arith

pub first_differences : (count differences last d : ℕ) → count ≡ 0 → differences ≡ differences_after count differences last d
first_differences zero differences last d h = refl
first_differences (suc count) differences last d h = absurd (omega arith)

pub next_differences : (count differences last d : ℕ) → (count ≡ 0 → ⊥)
    → min (differences + abs_diff d last) 340282366920938463463374607431768211455 ≡ differences_after count differences last d
next_differences zero differences last d h = absurd (h refl)
next_differences (suc count) differences last d h = refl

once_more : (n : ℕ) → saturated (saturated n + 1) ≡ saturated (n + 1)
once_more n = omega arith

below_both : (all a b most : ℕ) → all ≡ max a b → a < most → b < most → all < most
below_both all a b most is l m = omega arith

-- a delay was compared with the least one and the last one
pub record IsCompared (count d : ℕ) (old mid : Sums) : Type 0 where
  pub least : mid.least ≡ least_after count old.least d
  pub greatest : mid.greatest ≡ old.greatest
  pub total : mid.total ≡ old.total
  pub differences : mid.differences ≡ differences_after count old.differences old.last d

-- the sums with one delay more
pub compared_added : (ds : List ℕ) (old mid new : Sums) (count d : ℕ) → d < 2 ^ 64 → count ≡ saturated (length ds) → AreSums ds old
    → IsCompared count d old mid → new.least ≡ mid.least → new.greatest ≡ max mid.greatest d → new.last ≡ d
    → new.total ≡ min (mid.total + d) 340282366920938463463374607431768211455 → new.differences ≡ mid.differences
    → AreSums (ds ++ d ∷ []) new
compared_added ds old mid new count d fits is h m least greatest last total differences = record {
  least = least ∙ m.least ∙ least_added ds count old.least d is h.least;
  greatest = greatest ∙ ap (λ n. max n d) (m.greatest ∙ h.greatest) ∙ sym (fold_push max 0 ds d);
  fits = below_both (greatest_of (ds ++ d ∷ [])) (greatest_of ds) d (2 ^ 64) (fold_push max 0 ds d) h.fits fits;
  last = last ∙ sym (fold_push (λ before e. e) 0 ds d);
  total = total ∙ ap (λ n. min (n + d) 340282366920938463463374607431768211455) (m.total ∙ h.total)
      ∙ sum_after (sum ds) d (sum (ds ++ d ∷ [])) (sum_by_push (λ x. x) ds d);
  differences = differences ∙ m.differences ∙ differences_added ds count old.differences old.last d is h.differences h.last;
}

-- what is known with one delay more
pub added : (ds : List ℕ) (old mid new : Spread) (before after : Sums) (count d : ℕ) → count ≡ old.count
    → mid.count ≡ saturated (old.count + 1)
    → ((ds : List ℕ) → length ds + 1 < 2 ^ 64 → IsSpread ds old.rows.items old.is_rounded → IsSpread (ds ++ d ∷ []) mid.rows.items mid.is_rounded)
    → new.count ≡ mid.count → ((ds : List ℕ) → IsSpread ds mid.rows.items mid.is_rounded → IsSpread ds new.rows.items new.is_rounded)
    → ((ds : List ℕ) → count ≡ saturated (length ds) → AreSums ds before → AreSums (ds ++ d ∷ []) after)
    → AreAdded ds old before → AreAdded (ds ++ d ∷ []) new after
added ds old mid new before after count d is count_mid spread_mid count_new spread_new sums h = record {
  count = count_new ∙ count_mid ∙ ap (λ n. saturated (n + 1)) h.count ∙ once_more (length ds) ∙ sym (ap saturated (length-append ds (d ∷ [])));
  sums = sums ds (is ∙ h.count) h.sums;
  spread = λ few.
      let more : length ds + 1 < 2 ^ 64 = subst (λ n. n < 2 ^ 64) (length-append ds (d ∷ [])) few in
      spread_new (ds ++ d ∷ []) (spread_mid ds more (h.spread (omega (arith, more))));
}

-- the same delays, where the rows stay
pub unchanged : (ds : List ℕ) (old new : Spread) (t : Sums) → new.rows.items ≡ old.rows.items → new.count ≡ old.count → new.is_rounded ≡ old.is_rounded
    → AreAdded ds old t → AreAdded ds new t
unchanged ds old new t rows count kind h = record {
  count = count ∙ h.count;
  sums = h.sums;
  spread = λ few. subst (λ b. IsSpread ds new.rows.items b) (sym kind) (subst (λ l. IsSpread ds l old.is_rounded) (sym rows) (h.spread few));
}

-- what holds, whatever a call answers
pub held : {T E P : Type 0} (r : Result T E) → P → OnOk r P
held (Ok x) h = h
held (Err e) h = tt

-- the greatest of those behind the first so many, with one delay more
pub recent_added : (seen : ℕ) (ds : List ℕ) (recent d : ℕ) → seen ≤ length ds → (length ds < 2 ^ 64 → recent ≡ greatest_of (drop seen ds))
    → length (ds ++ d ∷ []) < 2 ^ 64 → max recent d ≡ greatest_of (drop seen (ds ++ d ∷ []))
recent_added seen ds recent d early is few =
    let more : length ds + 1 < 2 ^ 64 = subst (λ n. n < 2 ^ 64) (length-append ds (d ∷ [])) few in
    ap (λ n. max n d) (is (omega (arith, more))) ∙ sym (fold_push max 0 (drop seen ds) d) ∙ ap greatest_of (sym (drop-append-le seen ds (d ∷ []) early))

pub seen_added : (seen : ℕ) (ds : List ℕ) (d : ℕ) → seen ≤ length ds → seen ≤ length (ds ++ d ∷ [])
seen_added seen ds d early = let l = length-append ds (d ∷ []) in omega (arith, early, l)
