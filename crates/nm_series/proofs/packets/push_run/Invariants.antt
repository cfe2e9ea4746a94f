use Rattle.std.proofs.Common.{◌≤◌, ℕ, List}
use Rattle.nm_measure.specs.Measured.{IsMeasuredBefore}
use Rattle.nm_series.specs.Packets.{HasRows}
use Rattle.nm_series.proofs.packets.push_run.Given as goal

abbrev pub invariant-loop : goal.invariant-loop
invariant-loop l = record {
  before : IsMeasuredBefore l.topology l.time l.measured;
  within : l.time ≤ l.topology.stop;
  rows : (j : ℕ) (initial : List ℕ) → HasRows l.topology j l.initial.measured.part.steps initial l.initial.text.items l.initial.measured.courses
      → HasRows l.topology j l.measured.part.steps initial l.text.items l.measured.courses;
}
