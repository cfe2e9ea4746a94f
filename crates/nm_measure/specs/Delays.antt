-- How long packets took.
use Rattle.std.specs.Prelude.{◌≡◌, ℕ, ◌<◌, ◌≤◌, ◌^◌, List, drop, length}
use Rattle.nm_measure.specs.Added.{AreAdded}
use Rattle.nm_measure.specs.Sums.{greatest_of}
use Rattle.nm_measure.specs.declared.delays.Delays.{Delays}

-- the greatest of these delays behind the first so many; 0 of none
abbrev pub greatest_behind : ℕ → List ℕ → ℕ
greatest_behind seen ds = greatest_of (drop seen ds)

-- these are the delays, in the order in which they were added
pub record AreDelays (ds : List ℕ) (d : Delays) : Type 0 where
  pub added : AreAdded ds d.spread d.sums
  pub seen : d.seen ≤ length ds
  pub recent : length ds < 2 ^ 64 → d.recent ≡ greatest_behind d.seen ds
