use Rattle.std.proofs.Common.{◌≡◌, take}
use Rattle.std.specs.Prelude.{count_by, not}
use Rattle.nm_policy.specs.Ends.{has_ended}
use Rattle.nm_policy.proofs.callers.count_open.Given as goal

abbrev pub invariant-loop-caller : goal.invariant-loop-caller
invariant-loop-caller l = l.count ≡ count_by (λ k. not (has_ended k.ends)) (take l.caller-index l.callers)
