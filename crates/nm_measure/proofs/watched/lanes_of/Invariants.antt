use Rattle.std.proofs.Common.{◌≡◌, ◌≤◌, ℕ, length, [], Some, slice_get}
use Rattle.nm_measure.specs.declared.lane.Lane.{Lane}
use Rattle.nm_measure.proofs.watched.lanes_of.Given as goal

abbrev pub invariant-loop-number : goal.invariant-loop-number
invariant-loop-number l = record {
  within : l._number ≤ length l.topology.ifaces;
  count : length l.all.items ≡ l._number;
  none : (i : ℕ) (x : Lane) → slice_get l.all.items i ≡ Some x → (x.line.items ≡ []) × (x.waiting ≡ 0);
}
