-- How often each delay of a list occurs, and percentiles by nearest rank.
use Rattle.std.specs.Prelude.{◌≡◌, ℕ, ◌-◌, ◌*◌, ◌%◌, ◌^◌, ◌<◌, ◌≤◌, max, Bool, true, false, if◌then◌else◌, nat_eq, nat_lt, nat_le, List, [], ◌∷◌, ◌++◌, length, count_by, sum_by, slice_index_or, ◌==◌, ◌+◌}
use Rattle.std.specs.Int.{div_ceil}
use Rattle.std.specs.Int.Count.{count_leading_zeros}
use Rattle.nm_base.specs.Count.{saturated}
use Rattle.nm_measure.specs.declared.spread.Bucket.{Bucket}
use Rattle.nm_measure.specs.declared.spread.Row.{Row}

-- a delay rounded down to its eight highest bits
unfoldable pub rounded_down : ℕ → ℕ
rounded_down d = d - d % 2 ^ (64 - count_leading_zeros 64 d - 8)

-- the greatest delay that is rounded down to this one
unfoldable pub top_of : ℕ → ℕ
top_of d = saturated (d + (2 ^ (64 - count_leading_zeros 64 d - 8) - 1))

-- a delay as it is kept
abbrev pub kept : (is_rounded : Bool) → ℕ → ℕ
kept true d = rounded_down d
kept false d = d

-- how many delays that pass a test there are by these rows
abbrev pub times_of : (ℕ → Bool) → List Row → ℕ
times_of test rows = sum_by (λ r. if test r.delay then r.times else 0) rows

-- each row stands for a delay at least
abbrev pub HaveTimes : List Row → Type 0
HaveTimes rows = (i : ℕ) (r : Row) → i < length rows → 1 ≤ (slice_index_or rows i r).times

-- how many of these delays are different from each other and from those that were seen
abbrev pub new_after : (seen : List ℕ) → List ℕ → ℕ
new_after seen [] = 0
new_after seen (d ∷ ds) =
    (if count_by (λ e. nat_eq e d) seen == 0 then 1 else 0) + new_after (seen ++ d ∷ []) ds

-- how many different delays there are
abbrev pub different_of : List ℕ → ℕ
different_of ds = new_after [] ds

-- a row for each different delay; all are rounded only if there were more than 1,024
abbrev pub HaveRows : Bool → List ℕ → List Row → Type 0
HaveRows true ds rows = 1024 < different_of ds
HaveRows false ds rows = length rows ≡ different_of ds

-- the rows say how often each of these delays occurs, as it is kept
pub record IsSpread (ds : List ℕ) (rows : List Row) (is_rounded : Bool) : Type 0 where
  pub times : (test : ℕ → Bool) → times_of test rows ≡ count_by (λ d. test (kept is_rounded d)) ds
  pub kinds : HaveRows is_rounded ds rows

-- how many of so many delays are at most their percentile: that share, rounded up, and one at least
abbrev pub rank_of : (count thousandths : ℕ) → ℕ
rank_of count thousandths = max (div_ceil (count * thousandths) 1000) 1

-- The percentile by nearest rank: so many delays are at most p, and not so many are less. So it is
-- one of them.
pub record IsPercentile (ds : List ℕ) (thousandths p : ℕ) : Type 0 where
  pub enough : rank_of (length ds) thousandths ≤ count_by (λ d. nat_le d p) ds
  pub least : count_by (λ d. nat_lt d p) ds < rank_of (length ds) thousandths

-- each row's delay is greater than those before it
abbrev pub DelaysRise : List Row → Type 0
DelaysRise rows = (i j : ℕ) (r : Row) → i < j → j < length rows
    → (slice_index_or rows i r).delay < (slice_index_or rows j r).delay

-- the rows of these delays, by rising delays, each for one of them at least
pub record AreSpreadRows (ds : List ℕ) (is_rounded : Bool) (rows : List Row) : Type 0 where
  pub spread : IsSpread ds rows is_rounded
  pub rise : DelaysRise rows
  pub some : HaveTimes rows

-- a row as it is shown
abbrev pub bucket_of : (is_rounded : Bool) → Row → Bucket
bucket_of is_rounded r = record {
  least = r.delay;
  greatest = if is_rounded then top_of r.delay else r.delay;
  times = r.times;
}
