use Rattle.std.proofs.Common.{◌<◌, ℕ}
use Rattle.nm_alike.specs.Alike.{AgreeOn}
use Rattle.nm_alike.proofs.are_alike.Given as goal

abbrev pub invariant-loop-number : goal.invariant-loop-number
invariant-loop-number l = (channel : ℕ) → channel < l.number → AgreeOn l.one l.other channel
