use Rattle.std.proofs.Common.{◌≤◌, length, take}
use Rattle.nm_engine.specs.Given.{NotesAll}
use Rattle.nm_engine.proofs.given.GivenMessages.merge.Given as goal

abbrev pub invariant-loop-range : goal.invariant-loop-range
invariant-loop-range l = record {
  within : l.range-index ≤ length l.other.ranges.items;
  noted : NotesAll l.initial.self.ranges.items l.self.ranges.items (take l.range-index l.other.ranges.items);
}
