use Rattle.std.proofs.Common.{◌≡◌, ◌++◌, take, drop, map}
use Rattle.nm_policy.specs.Ends.{ended_by}
use Rattle.nm_policy.proofs.callers.end_of.Given as goal

abbrev pub invariant-loop-caller : goal.invariant-loop-caller
invariant-loop-caller l = l.callers ≡ map (ended_by l.name) (take l.caller-index l.initial.callers) ++ drop l.caller-index l.initial.callers
