-- What is known of delays that were added one after another.
use Rattle.std.specs.Prelude.{◌≡◌, ℕ, ◌^◌, ◌<◌, max, Bool, if◌then◌else◌, List, [], ◌∷◌, length}
use Rattle.nm_base.specs.Count.{saturated}
use Rattle.nm_measure.specs.Spread.{IsPercentile, IsSpread, rounded_down}
use Rattle.nm_measure.specs.Sums.{AreSums, least_of}
use Rattle.nm_measure.specs.declared.spread.Spread.{Spread}
use Rattle.nm_measure.specs.declared.sums.Sums.{Sums}

-- these delays were added, in this order
pub record AreAdded (ds : List ℕ) (s : Spread) (t : Sums) : Type 0 where
  pub count : s.count ≡ saturated (length ds)
  pub sums : AreSums ds t
  pub spread : length ds < 2 ^ 64 → IsSpread ds s.rows.items s.is_rounded

-- A percentile as it is shown: exact, or, of delays that are kept rounded, rounded down as they are
-- and no less than the least of them.
pub record IsKeptPercentile (ds : List ℕ) (is_rounded : Bool) (thousandths p : ℕ) : Type 0 where
  pub exact : ℕ
  pub is : IsPercentile ds thousandths exact
  pub shown : p ≡ (if is_rounded then max (rounded_down exact) (least_of ds) else exact)

-- the same; 0 of no delays
abbrev pub ShowsPercentile : List ℕ → Bool → (thousandths p : ℕ) → Type 0
ShowsPercentile [] is_rounded thousandths p = p ≡ 0
ShowsPercentile (d ∷ ds) is_rounded thousandths p = IsKeptPercentile (d ∷ ds) is_rounded thousandths p
