use Rattle.std.proofs.Common.{◌≡◌, drop, take, []}
use Rattle.nm_topology.specs.Names.{repeats}
use Rattle.nm_topology.proofs.names.insert_all.Given as goal

abbrev pub invariant-loop-item : goal.invariant-loop-item
invariant-loop-item g l = record {
  so_far : l.set.keys ≡ take l.item-index l.items;
  to_come : repeats g.T.PartialEq.eq [] l.items ≡ repeats g.T.PartialEq.eq l.set.keys (drop l.item-index l.items);
}
