-- What is computed of delays that are added one after another.
use Rattle.std.specs.Prelude.{◌≡◌, ℕ, suc, zero, ◌-◌, ◌/◌, ◌^◌, ◌<◌, min, max, List, [], ◌∷◌, length, fold, sum}
use Rattle.std.specs.Int.{abs_diff}
use Rattle.nm_measure.specs.declared.sums.Sums.{Sums}

-- the least of so many delays, with one delay more
abbrev pub least_after : ℕ → ℕ → ℕ → ℕ
least_after zero least delay = delay
least_after (suc n) least delay = min least delay

-- the least of these delays, the greatest and the last; 0 of none
abbrev pub least_of : List ℕ → ℕ
least_of [] = 0
least_of (d ∷ ds) = fold min d ds

abbrev pub greatest_of : List ℕ → ℕ
greatest_of ds = fold max 0 ds

abbrev pub last_of : List ℕ → ℕ
last_of ds = fold (λ before d. d) 0 ds

-- the mean, rounded down; 0 of none
abbrev pub mean_of : List ℕ → ℕ
mean_of ds = sum ds / length ds

-- by how much each differs from the one before it
abbrev pub differences_of : List ℕ → List ℕ
differences_of [] = []
differences_of (d ∷ []) = []
differences_of (d ∷ e ∷ ds) = abs_diff e d ∷ differences_of (e ∷ ds)

-- the mean absolute difference of the delays of two successive packets (RFC 3393)
abbrev pub jitter_of : List ℕ → ℕ
jitter_of ds = mean_of (differences_of ds)

-- a sum stops at the greatest of its type
abbrev pub sum_to : List ℕ → ℕ
sum_to ds = min (sum ds) (2 ^ 128 - 1)

-- what is computed of these delays, in the order in which they were added
pub record AreSums (ds : List ℕ) (t : Sums) : Type 0 where
  pub least : t.least ≡ least_of ds
  pub greatest : t.greatest ≡ greatest_of ds
  pub fits : greatest_of ds < 2 ^ 64
  pub last : t.last ≡ last_of ds
  pub total : t.total ≡ sum_to ds
  pub differences : t.differences ≡ sum_to (differences_of ds)
