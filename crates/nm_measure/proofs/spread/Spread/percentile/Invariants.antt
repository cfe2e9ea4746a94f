use Rattle.std.proofs.Common.{◌≡◌, ◌<◌, take, true}
use Rattle.nm_measure.specs.Spread.{times_of}
use Rattle.nm_measure.proofs.spread.Spread.percentile.Given as goal

abbrev pub invariant-loop-row : goal.invariant-loop-row
invariant-loop-row l = record {
  all : l.row-items ≡ l.self.rows.items;
  passed : l.passed ≡ times_of (λ d. true) (take l.row-index l.self.rows.items);
  few : l.passed < l.rank;
}
