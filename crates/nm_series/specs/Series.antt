-- What all of a kind do over time.
use Rattle.std.specs.Prelude.{◌≡◌, ℕ, ◌+◌, ◌<◌, ◌≤◌, min, List, Option, Some, None}
use Rattle.nm_topology.specs.TopologyValue.{TopologyValue}
use Rattle.nm_measure.specs.Measured.{IsMeasuredBefore, MeasuredValue}

-- a series at a time of the run: what all had before it
pub record SeriesValue (X : Type 0) : Type 0 where
  pub measured : MeasuredValue
  pub before : List X
  pub time : ℕ
  pub step : ℕ

module _ {X : Type 0} (Had : TopologyValue → ℕ → List X → Type 0) where
  pub record IsSeries (t : TopologyValue) (x : SeriesValue X) : Type 0 where
    pub measured : IsMeasuredBefore t x.time x.measured
    pub before : Had t x.time x.before
    pub within : x.time ≤ t.stop

  -- the next step was made, or there is none
  abbrev pub Nexts : (AreRows : TopologyValue → (from until : ℕ) → List ℕ → Type 0) → TopologyValue
      → (old new : SeriesValue X) → Option (List ℕ) → Type 0
  Nexts AreRows t old new None = (t.stop ≤ old.time) × (new ≡ old)
  Nexts AreRows t old new (Some text) =
      IsSeries t new × (old.time < t.stop) × (new.time ≡ min (old.time + old.step) t.stop)
      × (new.step ≡ old.step)
      × AreRows t old.time new.time text
