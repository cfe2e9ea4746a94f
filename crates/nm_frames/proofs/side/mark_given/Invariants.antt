use Rattle.std.proofs.Common.{◌≡◌, ◌++◌, take, drop, map}
use Rattle.nm_frames.specs.Owed.{marked}
use Rattle.nm_frames.proofs.side.mark_given.Given as goal

abbrev pub invariant-loop-side : goal.invariant-loop-side
invariant-loop-side l = l.incoming ≡ map (marked l.channel) (take l.side-index l.initial.incoming) ++ drop l.side-index l.initial.incoming
