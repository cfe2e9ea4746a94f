use Rattle.std.proofs.Common.{◌≡◌, ℕ, List}
use Rattle.nm_measure.specs.Measured.{IsMeasuredBefore}
use Rattle.nm_series.specs.Packets.{HasRows}
use Rattle.nm_series.proofs.packets.push_all_ended.Given as goal

abbrev pub invariant-loop : goal.invariant-loop
invariant-loop l = record {
  rows : (j n : ℕ) (initial : List ℕ) → HasRows l.topology j n initial l.initial.text.items l.initial.measured.courses → HasRows l.topology j n initial l.text.items l.measured.courses;
  part : l.measured.part ≡ l.initial.measured.part;
  before : (until : ℕ) → IsMeasuredBefore l.topology until l.initial.measured → IsMeasuredBefore l.topology until l.measured;
}
