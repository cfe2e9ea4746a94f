use Rattle.std.proofs.Common.{◌≡◌, false, take, []}
use Rattle.nm_topology.specs.Names.{repeats}
use Rattle.nm_check.proofs.doubles.first_double.Given as goal

abbrev pub invariant-loop-item : goal.invariant-loop-item
invariant-loop-item g l = record {
  number : l.second ≡ l.item-index;
  so_far : l.seen.keys ≡ take l.item-index l.items;
  clean : repeats g.T.PartialEq.eq [] (take l.item-index l.items) ≡ false;
}
