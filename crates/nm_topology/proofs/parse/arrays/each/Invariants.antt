use Rattle.std.proofs.Common.{◌≡◌, length, drop}
use Rattle.toml.specs.View.{items_view}
use Rattle.nm_topology.specs.Parse.Arrays.{each}
use Rattle.nm_topology.proofs.Members.{with_front}
use Rattle.nm_topology.proofs.parse.arrays.each.Given as goal

abbrev pub invariant-loop-item : goal.invariant-loop-item
invariant-loop-item g l = record {
  count : length l.members.items ≡ l.item-index;
  read : each (g.T.Element.reads l.head) (items_view l.items) ≡ with_front l.members.items (each (g.T.Element.reads l.head) (items_view (drop l.item-index l.items)));
}
