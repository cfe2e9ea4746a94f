use Rattle.std.proofs.Common.{◌≡◌, take}
use Rattle.nm_rounds.proofs.same_topology.are_same.Given as goal

abbrev pub invariant-loop-i : goal.invariant-loop-i
invariant-loop-i g l = take l.i l.a ≡ take l.i l.b
