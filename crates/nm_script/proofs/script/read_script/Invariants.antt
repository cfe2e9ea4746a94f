use Rattle.std.proofs.Common.{◌+◌, ◌≤◌, length}
use Rattle.nm_script.proofs.Lines.{IsReadTo}
use Rattle.nm_script.proofs.script.read_script.Given as goal

abbrev pub invariant-loop-rest : goal.invariant-loop-rest
invariant-loop-rest l = IsReadTo l.text l.rest l.steps.items l.number × (l.number + length l.rest ≤ length l.text)

abbrev pub decreases-loop-rest : goal.decreases-loop-rest
decreases-loop-rest l = length l.rest
