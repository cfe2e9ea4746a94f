use Rattle.std.proofs.Common.{◌≡◌, drop}
use Rattle.nm_frames.specs.Owed.{have_owed}
use Rattle.nm_frames.proofs.owed.next_have.Given as goal

abbrev pub invariant-loop-side : goal.invariant-loop-side
invariant-loop-side l = have_owed l.book (drop l.side-index l.incoming) ≡ have_owed l.book l.incoming
