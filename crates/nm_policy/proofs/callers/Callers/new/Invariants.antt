use Rattle.std.proofs.Common.{◌≡◌, map, take}
use Rattle.nm_policy.specs.Ends.{new_caller}
use Rattle.nm_policy.proofs.callers.Callers.new.Given as goal

abbrev pub invariant-loop-name : goal.invariant-loop-name
invariant-loop-name l = l.all.items ≡ map new_caller (take l.name-index l.names)
