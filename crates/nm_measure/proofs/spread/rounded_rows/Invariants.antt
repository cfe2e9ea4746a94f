use Rattle.std.proofs.Common.{◌≡◌, ℕ, Bool, take}
use Rattle.nm_measure.specs.Spread.{DelaysRise, HaveTimes, rounded_down, times_of}
use Rattle.nm_measure.proofs.spread.rounded_rows.Given as goal

abbrev pub invariant-loop-row : goal.invariant-loop-row
invariant-loop-row l = record {
  times : (test : ℕ → Bool) → times_of test l.all.items ≡ times_of (λ d. test (rounded_down d)) (take l.row-index l.rows);
  rise : DelaysRise l.all.items;
  some : HaveTimes l.all.items;
}
