-- Percentiles of delays, and of the same delays as they are kept.
use Rattle.std.proofs.Common.{◌≡◌, ⊎_elim, ℕ, zero, suc, ◌^◌, ◌<◌, ◌≤◌, max, min, Bool, true, false, cond, leb, ltb, List, [], ◌∷◌, length, fold, map, count_by, refl, sym, ap, ◌∙◌, subst, arith}
use Rattle.std.proofs.Math.Nat.{le_trans}
use Rattle.std.proofs.lemmas.Bool.{cases_lt, le-leb, le-ltb, leb-true, lt-leb, lt-ltb, ltb-true}
use Rattle.std.proofs.lemmas.List.{length-map}
use Rattle.std.proofs.lemmas.List.Sums.{sum_by-cons}
use Rattle.nm_measure.specs.Added.{IsKeptPercentile, ShowsPercentile}
use Rattle.nm_measure.specs.Sums.{greatest_of, least_of}
use Rattle.nm_measure.specs.Spread.{IsPercentile, kept, rank_of, rounded_down}
use Rattle.nm_measure.proofs.Added.{first_most}
use Rattle.nm_measure.proofs.Rounding.{rounded_rises}
use Rattle.nm_measure.proofs.Rows.{count_all, count_map, rank_within}

-- where a test passes that another passes too
bit_le : (a b : Bool) → (a ≡ true → b ≡ true) → cond a 1 0 ≤ cond b 1 0
bit_le true b h = subst (λ x. 1 ≤ cond x 1 0) (sym (h refl)) (omega arith)
bit_le false b h = omega arith

pub count_le : (p q : ℕ → Bool) (most before : ℕ) (ds : List ℕ) → fold max before ds ≤ most → ((d : ℕ) → d ≤ most → p d ≡ true → q d ≡ true)
    → count_by p ds ≤ count_by q ds
count_le p q most before [] low h = omega arith
count_le p q most before (d ∷ ds) low h =
    let first = first_most (max before d) ds in
    let here = bit_le (p d) (q d) (h d (omega (arith, first, low))) in
    let rest = count_le p q most (max before d) ds low h in
    let left = sum_by-cons (λ x. cond (p x) 1 0) d ds in
    let right = sum_by-cons (λ x. cond (q x) 1 0) d ds in
    omega (arith, here, rest, left, right)

none_below : (ds : List ℕ) → count_by (λ d. ltb d 0) ds ≡ 0
none_below [] = refl
none_below (d ∷ ds) =
    let here : ◌≡◌ {A = ℕ} (cond (ltb d 0) 1 0) 0 = ap (λ b. cond b 1 0) (le-ltb d 0 (omega arith)) in
    let all = sum_by-cons (λ x. cond (ltb x 0) 1 0) d ds in
    let rest = none_below ds in
    omega (arith, here, all, rest)

-- the first number at which so many delays are reached
find_rank : (ds : List ℕ) (rank n : ℕ) → 1 ≤ rank → rank ≤ count_by (λ d. ltb d n) ds
    → (q : ℕ) × (rank ≤ count_by (λ d. leb d q) ds) × (count_by (λ d. ltb d q) ds < rank)
find_rank ds rank zero some reach = absurd (let none = none_below ds in omega (arith, some, reach, none))
find_rank ds rank (suc n) some reach = ⊎_elim
    (λ few. (
      n,
      le_trans reach (count_le (λ d. ltb d (suc n)) (λ d. leb d n) (greatest_of ds) 0 ds (omega arith)
          (λ d l e. le-leb d n (let below = ltb-true d (suc n) e in omega (arith, below)))),
      few,
    ))
    (λ enough. find_rank ds rank n some enough)
    (cases_lt (count_by (λ d. ltb d n) ds) rank)

rank_some : (count thousandths : ℕ) → 1 ≤ rank_of count thousandths
rank_some count thousandths = omega arith

-- each list of delays has percentiles
pub exact_percentile : (ds : List ℕ) (thousandths : ℕ) → 0 < length ds → thousandths ≤ 1000 → (q : ℕ) × IsPercentile ds thousandths q
exact_percentile ds thousandths some share =
    let most = greatest_of ds in
    let all : count_by (λ d. true) ds ≤ count_by (λ d. ltb d (suc most)) ds =
    count_le (λ d. true) (λ d. ltb d (suc most)) most 0 ds (omega arith) (λ d l e. lt-ltb d (suc most) (omega (arith, l))) in
    let count = count_all ds in
    let rank = rank_within (length ds) thousandths some share in
    let found = find_rank ds (rank_of (length ds) thousandths) (suc most) (rank_some (length ds) thousandths)
    (reached (rank_of (length ds) thousandths) (length ds) (count_by (λ d. true) ds) (count_by (λ d. ltb d (suc most)) ds) rank count all) in
    (found.0, record { enough = found.1; least = found.2 })
  where
    reached : (rank count whole below : ℕ) → rank ≤ count → whole ≡ count → whole ≤ below → rank ≤ below
    reached rank count whole below l e m = omega arith

-- a delay that is not rounded down below another
kept_rises : (is_rounded : Bool) (d e : ℕ) → d ≤ e → e < 2 ^ 64 → kept is_rounded d ≤ kept is_rounded e
kept_rises true d e h fits = rounded_rises d e h fits
kept_rises false d e h fits = h

-- a percentile is no greater than the greatest delay
percentile_most : (ds : List ℕ) (thousandths q : ℕ) → 0 < length ds → thousandths ≤ 1000 → IsPercentile ds thousandths q → q ≤ greatest_of ds
percentile_most ds thousandths q some share h = ⊎_elim
    (λ past.
    let all : count_by (λ d. true) ds ≤ count_by (λ d. ltb d q) ds =
    count_le (λ d. true) (λ d. ltb d q) (greatest_of ds) 0 ds (omega arith) (λ d l e. lt-ltb d q (omega (arith, l, past))) in
    absurd (too_many (rank_of (length ds) thousandths) (length ds) (count_by (λ d. true) ds) (count_by (λ d. ltb d q) ds)
    (rank_within (length ds) thousandths some share) (count_all ds) all h.least))
    (λ within. within)
    (cases_lt (greatest_of ds) q)
  where
    too_many : (rank count whole below : ℕ) → rank ≤ count → whole ≡ count → whole ≤ below → below < rank → ⊥
    too_many rank count whole below l e m n = omega arith

-- the percentile of delays as they are kept is theirs, as it is kept
pub kept_percentile : (ds : List ℕ) (is_rounded : Bool) (thousandths q p : ℕ) → greatest_of ds < 2 ^ 64 → q ≤ greatest_of ds
    → IsPercentile ds thousandths q → IsPercentile (map (kept is_rounded) ds) thousandths p → p ≡ kept is_rounded q
kept_percentile ds is_rounded thousandths q p fits within h k =
    let most = greatest_of ds in
    let rank : rank_of (length (map (kept is_rounded) ds)) thousandths ≡ rank_of (length ds) thousandths =
    ap (λ n. rank_of n thousandths) (length-map ds (kept is_rounded)) in
    let upper = count_map (λ d. leb d p) (kept is_rounded) ds in
    let lower = count_map (λ d. ltb d p) (kept is_rounded) ds in
    ⊎_elim
    (λ less.
    let all : count_by (λ d. leb (kept is_rounded d) p) ds ≤ count_by (λ d. ltb d q) ds =
    count_le (λ d. leb (kept is_rounded d) p) (λ d. ltb d q) most 0 ds (omega arith)
    (λ d l e. ⊎_elim
    (λ below. lt-ltb d q below)
    (λ above.
    let rises = kept_rises is_rounded q d above (omega (arith, l, fits)) in
    let up_to = leb-true (kept is_rounded d) p e in
    absurd (omega (arith, less, rises, up_to)))
    (cases_lt d q)) in
    absurd (not_less _ _ _ _ _ rank k.enough upper all h.least))
    (λ more. ⊎_elim
    (λ past.
    let all : count_by (λ d. leb d q) ds ≤ count_by (λ d. ltb (kept is_rounded d) p) ds =
    count_le (λ d. leb d q) (λ d. ltb (kept is_rounded d) p) most 0 ds (omega arith)
    (λ d l e.
    let rises = kept_rises is_rounded d q (leb-true d q e) (omega (arith, within, fits)) in
    lt-ltb (kept is_rounded d) p (omega (arith, rises, past))) in
    absurd (not_more _ _ _ _ _ rank k.least lower all h.enough))
    (λ up_to. omega (arith, more, up_to))
    (cases_lt (kept is_rounded q) p))
    (cases_lt p (kept is_rounded q))
  where
    not_less : (rank' rank count up_to below : ℕ) → rank' ≡ rank → rank' ≤ count → count ≡ up_to → up_to ≤ below → below < rank → ⊥
    not_less rank' rank count up_to below a b c d e = omega arith

    not_more : (rank' rank count below up_to : ℕ) → rank' ≡ rank → count < rank' → count ≡ below → up_to ≤ below → rank ≤ up_to → ⊥
    not_more rank' rank count below up_to a b c d e = omega arith

-- some delay is no less than the least
least_first : (d : ℕ) (ds : List ℕ) → fold min d ds ≤ d
least_first d [] = omega arith
least_first d (e ∷ ds) = let h = least_first (min d e) ds in omega (arith, h)

none_up_to : (d : ℕ) (ds : List ℕ) (q : ℕ) → q < fold min d ds → count_by (λ x. leb x q) (d ∷ ds) ≡ 0
none_up_to d [] q h =
    let here : ◌≡◌ {A = ℕ} (cond (leb d q) 1 0) 0 = ap (λ b. cond b 1 0) (lt-leb d q h) in
    let all = sum_by-cons (λ x. cond (leb x q) 1 0) d [] in
    omega (arith, here, all)
none_up_to d (e ∷ ds) q h =
    let first = least_first (min d e) ds in
    let here : ◌≡◌ {A = ℕ} (cond (leb d q) 1 0) 0 = ap (λ b. cond b 1 0) (lt-leb d q (omega (arith, first, h))) in
    let next : ◌≡◌ {A = ℕ} (cond (leb e q) 1 0) 0 = ap (λ b. cond b 1 0) (lt-leb e q (omega (arith, first, h))) in
    let all = sum_by-cons (λ x. cond (leb x q) 1 0) d (e ∷ ds) in
    let more = sum_by-cons (λ x. cond (leb x q) 1 0) e ds in
    let rest = none_up_to (min d e) ds q h in
    let least = sum_by-cons (λ x. cond (leb x q) 1 0) (min d e) ds in
    omega (arith, here, next, all, more, rest, least)

pub least_within : (ds : List ℕ) (thousandths q : ℕ) → IsPercentile ds thousandths q → least_of ds ≤ q
least_within [] thousandths q h = omega arith
least_within (d ∷ ds) thousandths q h = ⊎_elim
    (λ less. absurd (let none = none_up_to d ds q less in not_reached _ _ (rank_some (length (d ∷ ds)) thousandths) h.enough none))
    (λ within. within)
    (cases_lt q (fold min d ds))
  where
    not_reached : (rank count : ℕ) → 1 ≤ rank → rank ≤ count → count ≡ 0 → ⊥
    not_reached rank count some l e = omega arith

-- what is shown of delays that are kept
pub shown_percentile : (ds : List ℕ) (is_rounded : Bool) (thousandths p : ℕ) → greatest_of ds < 2 ^ 64 → 0 < length ds → thousandths ≤ 1000
    → IsPercentile (map (kept is_rounded) ds) thousandths p → IsKeptPercentile ds is_rounded thousandths (max p (least_of ds))
shown_percentile ds is_rounded thousandths p fits some share h =
    let exact = exact_percentile ds thousandths some share in
    let same = kept_percentile ds is_rounded thousandths exact.0 p fits (percentile_most ds thousandths exact.0 some share exact.1) exact.1 h in
    record { exact = exact.0; is = exact.1; shown = ap (λ n. max n (least_of ds)) same ∙ by_kind is_rounded exact.0 (least_within ds thousandths exact.0 exact.1) }
  where
    by_kind : (b : Bool) (q : ℕ) → least_of ds ≤ q → max (kept b q) (least_of ds) ≡ cond b (max (rounded_down q) (least_of ds)) q
    by_kind true q l = refl
    by_kind false q l = omega arith

pub shows_percentile : (ds : List ℕ) (is_rounded : Bool) (thousandths p least : ℕ) → least ≡ least_of ds → greatest_of ds < 2 ^ 64 → thousandths ≤ 1000
    → (length ds ≡ 0 → p ≡ 0) → (0 < length ds → IsPercentile (map (kept is_rounded) ds) thousandths p)
    → ShowsPercentile ds is_rounded thousandths (max p least)
shows_percentile [] is_rounded thousandths p least is fits share none some = let zero_is = none refl in omega (arith, zero_is, is)
shows_percentile (d ∷ ds) is_rounded thousandths p least is fits share none some =
    subst (λ n. IsKeptPercentile (d ∷ ds) is_rounded thousandths (max p n)) (sym is)
    (shown_percentile (d ∷ ds) is_rounded thousandths p fits (omega arith) share (some (omega arith)))
