use Rattle.std.proofs.Common.{◌≡◌, ◌≤◌, ℕ, true, List, length}
use Rattle.nm_topology.specs.Topology.{receiving_iface}
use Rattle.nm_topology.specs.TopologyValue.{TopologyValue}
use Rattle.nm_model.specs.Knowledge.{Know}
use Rattle.nm_model.specs.Partition.{comes_in}
use Rattle.nm_sim.specs.Network.{net_of}
use Rattle.nm_book.specs.Merging.{IsGrown, IsTurnOf, both_know}
use Rattle.nm_book.specs.Telling.{told_each}
use Rattle.nm_book.proofs.merging.add_new.Given as goal

abbrev pub invariant-loop-number : goal.invariant-loop-number
invariant-loop-number l = record {
  most : l.number ≤ length l.other.list;
  grown : (t : TopologyValue) (p : ℕ) (knows others : List (Know (List ℕ))) → IsTurnOf t p knows others (both_know l.channel l.know l.other) l.fn.messages.items
      → comes_in (net_of t) p (receiving_iface t l.channel) ≡ true
      → IsGrown t p knows (told_each knows l.fn.messages.items) (both_know l.channel l.know l.other) l.number l.messages.items;
}
