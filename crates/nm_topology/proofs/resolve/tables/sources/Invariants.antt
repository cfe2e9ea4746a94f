use Rattle.std.proofs.Common.{◌≡◌, ◌+◌, All, length}
use Rattle.nm_topology.specs.Accepted.{IsPlaced}
use Rattle.std.specs.Vec.Iter.{into_iter_items}
use Rattle.nm_topology.specs.Resolve.{all_of, placed_source}
use Rattle.nm_topology.proofs.Members.{with_front}
use Rattle.nm_topology.proofs.resolve.tables.sources.Given as goal

abbrev pub invariant-loop-table : goal.invariant-loop-table
invariant-loop-table l = record {
  len : length l.sources.items + length (into_iter_items l.table-iterator) ≡ length l.fn.tables.items;
  placed : All (λ s. IsPlaced (length l.nodes) l.owners s) l.sources.items;
  read : all_of (placed_source l.nodes l.ifaces l.owners) l.fn.tables.items ≡ with_front l.sources.items (all_of (placed_source l.nodes l.ifaces l.owners) (into_iter_items l.table-iterator));
}
