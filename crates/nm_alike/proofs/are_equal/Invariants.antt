use Rattle.std.proofs.Common.{◌≡◌, ◌<◌, ℕ}
use Rattle.nm_model.specs.Lists.{nth}
use Rattle.nm_alike.proofs.are_equal.Given as goal

abbrev pub invariant-loop-number : goal.invariant-loop-number
invariant-loop-number l = (number : ℕ) → number < l.number → nth l.one.list number ≡ nth l.other.list number
