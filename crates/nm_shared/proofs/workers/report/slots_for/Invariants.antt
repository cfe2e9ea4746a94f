use Rattle.std.proofs.Common.{◌≡◌, vec_len}
use Rattle.nm_shared.proofs.workers.report.slots_for.Given as goal

abbrev pub invariant-loop-number : goal.invariant-loop-number
invariant-loop-number g l = vec_len l.slots ≡ l._number
