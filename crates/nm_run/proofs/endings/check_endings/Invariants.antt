use Rattle.std.proofs.Common.{◌≤◌, length, map}
use Rattle.nm_run.proofs.ReplicaEndings.{AreSoFar}
use Rattle.nm_run.proofs.endings.check_endings.Given as goal

abbrev pub invariant-loop-number : goal.invariant-loop-number
invariant-loop-number g l = record {
  within : l.number ≤ length l.ends;
  so_far : AreSoFar (map (λ e. e.served) l.ends) l.number l.outcome;
}
