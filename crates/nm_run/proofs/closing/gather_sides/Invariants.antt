use Rattle.std.proofs.Common.{◌≡◌, ◌+◌, All, Option, vec_len}
use Rattle.std.specs.List.{flat_map, sum_by}
use Rattle.std.specs.Vec.Iter.{into_iter_items}
use Rattle.nm_files.specs.Files.{AreCounted}
use Rattle.nm_files.specs.Outputs.{Files}
use Rattle.nm_run.specs.Passes.{pass_counts, given_back, more_of, pass_count, side_books}
use Rattle.nm_run.proofs.closing.gather_sides.Given as goal

abbrev pub invariant-loop-end : goal.invariant-loop-end
invariant-loop-end g l = record {
  passes : pass_count l.passes ≡ pass_count l.fn.passes + sum_by given_back l.yielded;
  each : pass_counts l.passes ≡ more_of (pass_counts l.fn.passes) (flat_map side_books l.yielded);
  books : vec_len l.passes.lists ≡ vec_len l.fn.passes.lists;
  files : (made : Option Files) → All (λ e. AreCounted g.S.Sink.seen made e.files.files.items) l.fn.ends.items
      → All (λ e. AreCounted g.S.Sink.seen made e.files.files.items) (into_iter_items l.end-iterator)
      × All (λ own. AreCounted g.S.Sink.seen made own.files.items) l.files.items;
}
