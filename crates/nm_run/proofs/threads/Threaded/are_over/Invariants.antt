use Rattle.std.proofs.Common.{◌≡◌}
use Rattle.nm_run.proofs.threads.Threaded.are_over.Given as goal

abbrev pub invariant-loop-number : goal.invariant-loop-number
invariant-loop-number g l = l.ended.count ≡ l.number
