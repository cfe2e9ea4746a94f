use Rattle.std.proofs.Common.{◌≡◌, ◌<◌, ◌≤◌, ℕ, true, slice_index_or}
use Rattle.nm_topology.specs.Topology.{receiving_iface}
use Rattle.nm_model.specs.Knowledge.{nothing_known}
use Rattle.nm_model.specs.Partition.{comes_in}
use Rattle.nm_model.specs.Replica.{safe_time}
use Rattle.nm_sim.specs.Network.{net_of}
use Rattle.nm_book.specs.Book.{knowledge_of}
use Rattle.nm_book.proofs.safe.safe_time.Given as goal

abbrev pub invariant-loop-number : goal.invariant-loop-number
invariant-loop-number l = record {
  stop : l.safe ≤ l.topology.stop;
  clocks : (c : ℕ) → c < l.number → comes_in (net_of l.topology) l.partition (receiving_iface l.topology c) ≡ true
      → l.safe ≤ (slice_index_or l.knows c nothing_known).clock;
  above : safe_time (net_of l.topology) l.partition (knowledge_of l.topology l.knows) ≤ l.safe;
}
