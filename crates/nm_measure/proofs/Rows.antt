-- Rows of delays: how often each occurs, in rising order.
use Rattle.std.proofs.Common.{◌≡◌, ⊎_elim, append-nil, append_assoc, ℕ, zero, suc, ◌+◌, ◌*◌, ◌/◌, ◌%◌, ◌<◌, ◌≤◌, min, max, Bool, true, false, cond, eqb, leb, ltb, ne_eqb, List, [], ◌∷◌, ◌++◌, length, get_or, take, map, count_by, refl, sym, ap, ◌∙◌, subst, arith}
use Rattle.std.specs.List.Sorted.{IsNonDecreasingBy, IsPartitionPoint}
use Rattle.std.proofs.Math.Nat.{mul-le-mul_left}
use Rattle.std.proofs.lemmas.Bool.{cases_lt, le-leb, le-ltb, ltb-false, ltb-true}
use Rattle.std.proofs.lemmas.List.{get_or_default, length-map, take_all}
use Rattle.std.proofs.lemmas.List.Sums.{sum_by-cons, sum_by_push}
use Rattle.nm_measure.specs.declared.spread.Row.{Row}
use Rattle.nm_measure.specs.Spread.{DelaysRise, HaveRows, IsPercentile, IsSpread, different_of, kept, new_after, rank_of, rounded_down, times_of}

-- rising delays do not fall
pub climbs : (rows : List Row) → DelaysRise rows → IsNonDecreasingBy (λ (r : Row). r.delay) rows
climbs rows rise i j d le lt = ⊎_elim
    (λ (less : i < j). let up = rise i j d less lt in omega (arith, up))
    (λ (past : j ≤ i). let same : i ≡ j = omega (arith, le, past) in let e = ap (λ k. (get_or rows k d).delay) same in omega (arith, e))
    (cases_lt i j)

-- from a place on all delays are greater than one, if none is less and that at the place is another
pub behind : (rows : List Row) (i delay : ℕ) → IsNonDecreasingBy (λ (r : Row). r.delay) rows → ((k : ℕ) (d : Row) → i ≤ k → k < length rows → delay ≤ (get_or rows k d).delay)
    → ((d : Row) → i < length rows → (get_or rows i d).delay ≡ delay → ⊥) → (k : ℕ) (d : Row) → i ≤ k → k < length rows → delay < (get_or rows k d).delay
behind rows i delay rise least apart k d le lt =
    let here : delay ≤ (get_or rows i d).delay = least i d (omega arith) (omega (arith, le, lt)) in
    let up = rise i k d le lt in
    ⊎_elim (λ h. omega (arith, h, up)) (λ h. absurd (apart d (omega (arith, le, lt)) (omega (arith, h, here)))) (cases_lt delay (get_or rows i d).delay)

-- a different delay more
at_first : (a b : ℕ) → b ≡ a → a + 0 ≡ 0 + b
at_first a b e = omega arith

later : (a b c e f : ℕ) → b ≡ c + e → e ≡ f → a + b ≡ a + c + f
later a b c e f h i = omega arith

new_push : (seen ds : List ℕ) (d : ℕ) → new_after seen (ds ++ d ∷ []) ≡ new_after seen ds + cond (eqb (count_by (λ e. eqb e d) (seen ++ ds)) 0) 1 0
new_push seen [] d = at_first _ _ (ap (λ l. cond (eqb (count_by (λ e. eqb e d) l) 0) 1 0) (append-nil seen))
new_push seen (x ∷ xs) d = later _ _ _ _ _ (new_push (seen ++ x ∷ []) xs d)
    (ap (λ l. cond (eqb (count_by (λ e. eqb e d) l) 0) 1 0) (append_assoc seen (x ∷ []) xs))

kinds_added : (is_rounded : Bool) (ds : List ℕ) (old new : List Row) (d k : ℕ) → k ≡ kept is_rounded d
    → times_of (λ e. eqb e k) old ≡ count_by (λ e. eqb (kept is_rounded e) k) ds
    → length new ≡ length old + cond (eqb (times_of (λ e. eqb e k) old) 0) 1 0 → HaveRows is_rounded ds old → HaveRows is_rounded (ds ++ d ∷ []) new
kinds_added true ds old new d k is times rows h = let push = new_push [] ds d in omega (arith, push, h)
kinds_added false ds old new d k is times rows h =
    rows ∙ ap (λ n. n + cond (eqb (times_of (λ e. eqb e k) old) 0) 1 0) h
    ∙ ap (λ n. different_of ds + cond (eqb n 0) 1 0) times
    ∙ ap (λ n. different_of ds + cond (eqb (count_by (λ e. eqb e n) ds) 0) 1 0) is
    ∙ sym (new_push [] ds d)

-- one delay more
pub spread_added : (ds : List ℕ) (old new : List Row) (d k : ℕ) (is_rounded : Bool) → IsSpread ds old is_rounded → k ≡ kept is_rounded d
    → ((test : ℕ → Bool) → times_of test new ≡ times_of test old + cond (test k) 1 0)
    → length new ≡ length old + cond (eqb (times_of (λ e. eqb e k) old) 0) 1 0
    → IsSpread (ds ++ d ∷ []) new is_rounded
spread_added ds old new d k is_rounded h is more rows = record {
  kinds = kinds_added is_rounded ds old new d k is (h.times (λ e. eqb e k)) rows h.kinds;
  times = λ test. more test ∙ ap (λ n. n + cond (test k) 1 0) (h.times test)
      ∙ ap (λ n. count_by (λ x. test (kept is_rounded x)) ds + cond (test n) 1 0) is
      ∙ sym (sum_by_push (λ x. cond (test (kept is_rounded x)) 1 0) ds d);
}

-- all are rounded
pub spread_rounded : (ds : List ℕ) (old new : List Row) → IsSpread ds old false
    → ((test : ℕ → Bool) → times_of test new ≡ times_of (λ d. test (rounded_down d)) old) → 1024 < length old
    → IsSpread ds new true
spread_rounded ds old new h all many = record {
  times = λ test. all test ∙ h.times (λ d. test (rounded_down d));
  kinds = subst (λ n. 1024 < n) h.kinds many;
}

pub count_all : (ds : List ℕ) → count_by (λ d. true) ds ≡ length ds
count_all [] = refl
count_all (d ∷ ds) = let e = sum_by-cons (λ (x : ℕ). cond true 1 0) d ds in let f = count_all ds in omega (arith, e, f)

pub count_map : (test : ℕ → Bool) (f : ℕ → ℕ) (ds : List ℕ) → count_by test (map f ds) ≡ count_by (λ d. test (f d)) ds
count_map test f [] = refl
count_map test f (d ∷ ds) =
    sum_by-cons (λ x. cond (test x) 1 0) (f d) (map f ds) ∙ ap (λ n. cond (test (f d)) 1 0 + n) (count_map test f ds)
    ∙ sym (sum_by-cons (λ x. cond (test (f x)) 1 0) d ds)

-- rows count as many delays as there are
pub spread_count : (ds : List ℕ) (rows : List Row) (is_rounded : Bool) → IsSpread ds rows is_rounded
    → times_of (λ d. true) rows ≡ length ds
spread_count ds rows is_rounded h = h.times (λ d. true) ∙ count_all ds

-- the first rows count no more than those that pass, if each of them passes
pub upto : (test : ℕ → Bool) (rows : List Row) (k : ℕ)
    → ((j : ℕ) (r : Row) → j < k → j < length rows → test (get_or rows j r).delay ≡ true)
    → times_of (λ d. true) (take k rows) ≤ times_of test rows
upto test [] zero h = omega arith
upto test [] (suc k) h = omega arith
upto test (r ∷ rows) zero h = omega arith
upto test (r ∷ rows) (suc k) h =
    let here : test r.delay ≡ true = h 0 r (omega arith) (omega arith) in
    let more : times_of (λ d. true) (take k rows) ≤ times_of test rows =
    upto test rows k (λ j d l m. h (suc j) d (omega (arith, l)) (omega (arith, m))) in
    let left : times_of (λ d. true) (r ∷ take k rows) ≡ r.times + times_of (λ d. true) (take k rows) =
    sum_by-cons (λ (x : Row). x.times) r (take k rows) in
    let right : times_of test (r ∷ rows) ≡ cond (test r.delay) r.times 0 + times_of test rows =
    sum_by-cons (λ (x : Row). cond (test x.delay) x.times 0) r rows in
    let is : cond (test r.delay) r.times 0 ≡ r.times = ap (λ b. cond b r.times 0) here in
    omega (arith, left, right, is, more)

part_le : (b : Bool) (n : ℕ) → cond b n 0 ≤ n
part_le true n = omega arith
part_le false n = omega arith

-- those that pass count no more than the first rows, if none of the others passes
pub before : (test : ℕ → Bool) (rows : List Row) (k : ℕ)
    → ((j : ℕ) (r : Row) → k ≤ j → j < length rows → test (get_or rows j r).delay ≡ false)
    → times_of test rows ≤ times_of (λ d. true) (take k rows)
before test [] k h = omega arith
before test (r ∷ rows) zero h =
    let here : test r.delay ≡ false = h 0 r (omega arith) (omega arith) in
    let more : times_of test rows ≤ times_of (λ d. true) (take 0 rows) =
    before test rows 0 (λ j d l m. h (suc j) d (omega arith) (omega (arith, m))) in
    let right : times_of test (r ∷ rows) ≡ cond (test r.delay) r.times 0 + times_of test rows =
    sum_by-cons (λ (x : Row). cond (test x.delay) x.times 0) r rows in
    let is : cond (test r.delay) r.times 0 ≡ 0 = ap (λ b. cond b r.times 0) here in
    omega (arith, right, is, more)
before test (r ∷ rows) (suc k) h =
    let more : times_of test rows ≤ times_of (λ d. true) (take k rows) =
    before test rows k (λ j d l m. h (suc j) d (omega (arith, l)) (omega (arith, m))) in
    let left : times_of (λ d. true) (r ∷ take k rows) ≡ r.times + times_of (λ d. true) (take k rows) =
    sum_by-cons (λ (x : Row). x.times) r (take k rows) in
    let right : times_of test (r ∷ rows) ≡ cond (test r.delay) r.times 0 + times_of test rows =
    sum_by-cons (λ (x : Row). cond (test x.delay) x.times 0) r rows in
    let part = part_le (test r.delay) r.times in
    omega (arith, left, right, part, more)

-- no row has a delay that is put between those of less and those of more
pub none_same : (rows : List Row) (i delay : ℕ) → IsNonDecreasingBy (λ (r : Row). r.delay) rows
    → IsPartitionPoint (λ (r : Row). ltb r.delay delay ≡ true) (λ (r : Row). ltb r.delay delay ≡ false) rows i
    → ((r : Row) → i < length rows → (get_or rows i r).delay ≡ delay → ⊥)
    → times_of (λ d. eqb d delay) rows ≡ 0
none_same rows i delay rise h apart =
    let none : times_of (λ d. eqb d delay) rows ≤ times_of (λ d. true) (take 0 rows) =
    before (λ d. eqb d delay) rows 0 (λ j r l m. ne_eqb (get_or rows j r).delay delay (⊎_elim
    (λ less e. let low = ltb-true (get_or rows j r).delay delay (h.0 j r (omega arith) less) in omega (arith, low, e))
    (λ more e.
    let there : i < length rows = omega (arith, more, m) in
    let up = rise i j r more m in
    let least = ltb-false (get_or rows i r).delay delay (h.1 i r (omega arith) there) in
    apart r there (omega (arith, up, least, e)))
    (cases_lt j i))) in
    omega (arith, none)

reaches : (rank' rank first all count : ℕ) → rank' ≡ rank → rank ≤ first → first ≤ all → count ≡ all → rank' ≤ count
reaches rank' rank first all count e l m f = omega arith

fewer : (rank' rank first all count : ℕ) → rank' ≡ rank → first < rank → all ≤ first → count ≡ all → count < rank'
fewer rank' rank first all count e l m f = omega arith

-- the delay of the row with which the rank is reached
pub percentile_at : (ds : List ℕ) (rows : List Row) (is_rounded : Bool) (thousandths i : ℕ) (d : Row)
    → IsSpread ds rows is_rounded → IsNonDecreasingBy (λ (r : Row). r.delay) rows → i < length rows
    → times_of (λ d. true) (take i rows) < rank_of (length ds) thousandths
    → rank_of (length ds) thousandths ≤ times_of (λ d. true) (take (i + 1) rows)
    → IsPercentile (map (kept is_rounded) ds) thousandths (get_or rows i d).delay
percentile_at ds rows is_rounded thousandths i d h rise low few reach =
    let row = get_or rows i d in
    let count : length (map (kept is_rounded) ds) ≡ length ds = length-map ds (kept is_rounded) in
    let rank : rank_of (length (map (kept is_rounded) ds)) thousandths ≡ rank_of (length ds) thousandths =
    ap (λ n. rank_of n thousandths) count in
    let same : (r : Row) → row.delay ≡ (get_or rows i r).delay =
    λ r. ap (λ (x : Row). x.delay) (get_or_default rows i d r low) in
    let most : times_of (λ d. true) (take (i + 1) rows) ≤ times_of (λ d. leb d row.delay) rows =
    upto (λ d. leb d row.delay) rows (i + 1)
    (λ j r l m. le-leb (get_or rows j r).delay row.delay
    (let e = rise j i r (omega (arith, l)) low in let f = same r in omega (arith, e, f))) in
    let less : times_of (λ d. ltb d row.delay) rows ≤ times_of (λ d. true) (take i rows) =
    before (λ d. ltb d row.delay) rows i
    (λ j r l m. le-ltb (get_or rows j r).delay row.delay
    (let e = rise i j r l m in let f = same r in omega (arith, e, f))) in
    let upper : count_by (λ d. leb d row.delay) (map (kept is_rounded) ds) ≡ times_of (λ d. leb d row.delay) rows =
    count_map (λ d. leb d row.delay) (kept is_rounded) ds ∙ sym (h.times (λ d. leb d row.delay)) in
    let lower : count_by (λ d. ltb d row.delay) (map (kept is_rounded) ds) ≡ times_of (λ d. ltb d row.delay) rows =
    count_map (λ d. ltb d row.delay) (kept is_rounded) ds ∙ sym (h.times (λ d. ltb d row.delay)) in
    record {
      enough = reaches _ _ _ _ _ rank reach most upper;
      least = fewer _ _ _ _ _ rank few less lower;
    }

-- the rank is no more than there are
share_within : (x count : ℕ) → x ≤ count * 1000 → 0 < count → max (x / 1000 + min 1 (x % 1000)) 1 ≤ count
share_within x count most some = omega arith

pub rank_within : (count thousandths : ℕ) → 0 < count → thousandths ≤ 1000 → rank_of count thousandths ≤ count
rank_within count thousandths some share = share_within (count * thousandths) count (mul-le-mul_left count share) some

-- the sum so far, with one row more
pub sum_reached : (rank passed more next : ℕ) → rank ≤ min (passed + more) 18446744073709551615 → next ≡ passed + more → rank ≤ next
sum_reached rank passed more next h is = omega arith

-- all rows were passed
pub all_passed : (rows : List Row) (i : ℕ) → length rows ≤ i → times_of (λ d. true) (take i rows) ≡ times_of (λ d. true) rows
all_passed rows i past = ap (times_of (λ d. true)) (take_all i rows past)
