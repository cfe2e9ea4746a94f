use Rattle.nm_policy.specs.Decisions.{IsFirstBelow}
use Rattle.nm_policy.proofs.decisions.first_of.Given as goal

abbrev pub invariant-loop-key : goal.invariant-loop-key
invariant-loop-key l = IsFirstBelow l.connections l.key l.first
