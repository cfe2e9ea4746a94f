use Rattle.std.proofs.Common.{map}
use Rattle.std.specs.Vec.Iter.{into_iter_items}
use Rattle.nm_files.proofs.Made.{ArePlaced}
use Rattle.nm_files.proofs.closed_files.place_each.Given as goal

abbrev pub invariant-loop-file : goal.invariant-loop-file
invariant-loop-file g l = record {
  placed :
      ArePlaced (g.F.Outputs.made l.fn.outputs) (g.F.Outputs.made l.outputs) (map g.F.Outputs.closed l.fn.closed.items)
      (map g.F.Outputs.closed (into_iter_items l.file-iterator));
}
