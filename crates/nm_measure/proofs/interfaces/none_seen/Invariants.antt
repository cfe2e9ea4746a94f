use Rattle.std.proofs.Common.{◌≡◌, ◌≤◌, ℕ, length, None, Some, slice_get}
use Rattle.nm_sim.specs.Network.{far_of}
use Rattle.nm_measure.specs.declared.seen.Seen.{Seen}
use Rattle.nm_measure.specs.Waiting.{queue_empty}
use Rattle.nm_measure.proofs.interfaces.none_seen.Given as goal

abbrev pub invariant-loop-number : goal.invariant-loop-number
invariant-loop-number l = record {
  within : l.number ≤ length l.topology.ifaces;
  count : length l.all.items ≡ l.number;
  each : (i : ℕ) (x : Seen) → slice_get l.all.items i ≡ Some x
      → (x.queue ≡ queue_empty) × (x.usage.busy ≡ 0) × (x.usage.starts ≡ None) × (x.usage.rate ≡ (far_of l.topology i).rate);
}
