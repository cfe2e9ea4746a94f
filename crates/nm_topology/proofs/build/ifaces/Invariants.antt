use Rattle.std.proofs.Common.{◌≡◌, ◌+◌, ◌++◌, length}
use Rattle.std.specs.Slice.Iter.{iter_rest}
use Rattle.std.specs.Vec.Iter.{into_iter_items}
use Rattle.nm_topology.specs.Build.{placed_ifaces}
use Rattle.nm_topology.proofs.build.ifaces.Given as goal

abbrev pub invariant-loop-table : goal.invariant-loop-table
invariant-loop-table l = record {
  len : length l.ifaces.items + length (into_iter_items l.table-iterator) ≡ length l.fn.tables.items;
  placed : l.ifaces.items ++ placed_ifaces (into_iter_items l.table-iterator) (iter_rest l.owners) (iter_rest l.far) ≡ placed_ifaces l.fn.tables.items l.fn.owners l.fn.far;
}
