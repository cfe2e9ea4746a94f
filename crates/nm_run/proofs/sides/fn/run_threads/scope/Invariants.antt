use Rattle.std.proofs.Common.{All, Option}
use Rattle.std.specs.Vec.Iter.{into_iter_items}
use Rattle.nm_files.specs.Files.{AreCounted}
use Rattle.nm_files.specs.Outputs.{Files}
use Rattle.nm_run.specs.Sides.{StillCounts}
use Rattle.nm_run.proofs.sides.fn.run_threads.scope.Given as goal

-- If the files of all replicas were counted at first, those of the replicas whose threads have not begun are, and those with which the threads began.
abbrev pub invariant-loop-side : goal.invariant-loop-side
invariant-loop-side g l = record {
  counted : (made : Option Files) → All (λ s. AreCounted g.S.Sink.seen made s.holdings.files.files.items) (into_iter_items l.initial.side-iterator)
      → All (λ s. AreCounted g.S.Sink.seen made s.holdings.files.files.items) (into_iter_items l.side-iterator)
      × All (λ h. AreCounted g.S.Sink.seen made h.promise.0.value.files.items) l.threads.items;
}

-- If the files with which the threads began were counted, those of the replicas that have ended are.
abbrev pub invariant-loop-thread : goal.invariant-loop-thread
invariant-loop-thread g l = record {
  counted : (made : Option Files) → All (λ h. AreCounted g.S.Sink.seen made h.promise.0.value.files.items) (into_iter_items l.initial.thread-iterator)
      → All (λ h. AreCounted g.S.Sink.seen made h.promise.0.value.files.items) (into_iter_items l.thread-iterator)
      × All (StillCounts g.S.Sink.seen made) l.ends.items;
}
