use Rattle.std.proofs.Common.{◌-◌, ◌≤◌, drop, length}
use Rattle.nm_frames.specs.Reader.{Cuts}
use Rattle.nm_frames.proofs.reader.cut.Given as goal

abbrev pub invariant-loop-next : goal.invariant-loop-next
invariant-loop-next l = (l.at ≤ length l.block) × Cuts l.block (drop l.at l.block) l.initial.frames.items l.frames.items

abbrev pub decreases-loop-next : goal.decreases-loop-next
decreases-loop-next l = length l.block - l.at
