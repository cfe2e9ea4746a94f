use Rattle.std.proofs.Common.{◌≡◌, ◌++◌, map}
use Rattle.std.specs.Vec.Iter.{into_iter_items}
use Rattle.nm_files.proofs.Made.{ArePlaced}
use Rattle.nm_files.proofs.closed_files.place_all.Given as goal

abbrev pub invariant-loop-one : goal.invariant-loop-one
invariant-loop-one g l = record {
  placed :
      ArePlaced (g.F.Outputs.made l.fn.outputs) (g.F.Outputs.made l.outputs) (map (λ c. g.F.Outputs.closed c.file) l.fn.closed.files.items)
      (map (λ c. g.F.Outputs.closed c.file) (into_iter_items l.one-iterator));
  left : l.fn.closed.files.items ≡ l.yielded ++ into_iter_items l.one-iterator;
}
