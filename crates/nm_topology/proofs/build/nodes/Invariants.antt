use Rattle.std.proofs.Common.{◌≡◌, ◌+◌, ◌++◌, length}
use Rattle.std.specs.Vec.Iter.{into_iter_items}
use Rattle.nm_topology.specs.Build.{placed_nodes}
use Rattle.nm_topology.proofs.build.nodes.Given as goal

abbrev pub invariant-loop-table : goal.invariant-loop-table
invariant-loop-table l = record {
  len : length l.nodes.items + length (into_iter_items l.table-iterator) ≡ length l.fn.tables.items;
  placed : l.nodes.items ++ placed_nodes (into_iter_items l.table-iterator) (into_iter_items l.node_routes) ≡ placed_nodes l.fn.tables.items l.fn.node_routes.items;
}
