use Rattle.std.proofs.Common.{◌≡◌, ◌<◌, ◌≤◌, ℕ, List, drop, length, slice_index_or}
use Rattle.std.specs.Vec.Iter.{into_iter_items}
use Rattle.nm_model.specs.Knowledge.{Know, nothing_known}
use Rattle.nm_topology.specs.TopologyValue.{TopologyValue}
use Rattle.nm_book.specs.Merging.{AreGains, joined_at}
use Rattle.nm_book.proofs.merging.take_all.Given as goal

abbrev pub invariant-loop-gain : goal.invariant-loop-gain
invariant-loop-gain l = record {
  rest : into_iter_items l.gain-iterator ≡ drop l.number l.fn.gains.items;
  most : l.number ≤ length l.fn.gains.items;
  count : length l.knows.items ≡ length l.fn.knows.items;
  below : (t : TopologyValue) (p : ℕ) (others : List (Know (List ℕ))) → AreGains t p l.fn.knows.items others l.fn.gains.items
      → (c : ℕ) → c < l.number → slice_index_or l.knows.items c nothing_known ≡ joined_at t p l.fn.knows.items others c;
  above : (c : ℕ) → l.number ≤ c → slice_index_or l.knows.items c nothing_known ≡ slice_index_or l.fn.knows.items c nothing_known;
}
