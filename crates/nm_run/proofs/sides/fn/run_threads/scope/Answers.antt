use Rattle.std.proofs.Common.{◌≡◌, ◌∷◌, [], ◌++◌, All, sym, subst, rules}
use Rattle.std.proofs.lemmas.List.Elements.{All-head, All-push, All-rest}
use Rattle.std.specs.Vec.Iter.{into_iter_items}
use Rattle.nm_files.specs.Files.{AreCounted}
use Rattle.nm_files.proofs.Files.{files_counted}
use Rattle.nm_run.specs.Sides.{StillCounts}
use Rattle.nm_run.proofs.sides.fn.run_threads.scope.Goals as goal

pub loop-side-init : goal.loop-side-init
loop-side-init g c = record {
  counted = λ made all. (all, search rules);
}

pub loop-side-preserved : goal.loop-side-preserved
loop-side-preserved g c =
    let side = c.in-Some.side in
    let more = into_iter_items c.next.new.self in
    let next = c.in-Some.ensures.steps.0 in
    let seen = g.S.Sink.seen in
    let last : c.push.new.self.items ≡ c.loop-side.threads.items ++ c.in-Ok.thread ∷ [] = search rules in
    let promised : c.in-Ok.thread.promise.0.value ≡ side.holdings.files = search rules in
    record {
      counted = λ made all.
          let was = c.loop-side.invariant.counted made all in (
            All-rest (λ s. AreCounted seen made s.holdings.files.files.items) side more (into_iter_items c.loop-side.side-iterator) next was.0,
            subst (All (λ h. AreCounted seen made h.promise.0.value.files.items)) (sym last)
                (All-push (λ h. AreCounted seen made h.promise.0.value.files.items) c.loop-side.threads.items c.in-Ok.thread was.1
                (subst (λ f. AreCounted seen made f.files.items) (sym promised)
                (All-head (λ s. AreCounted seen made s.holdings.files.files.items) side more (subst (All (λ s. AreCounted seen made s.holdings.files.files.items)) next was.0)))),
          );
    }

pub loop-thread-init : goal.loop-thread-init
loop-thread-init g c = record {
  counted = λ made all. (all, search rules);
}

pub loop-thread-preserved : goal.loop-thread-preserved
loop-thread-preserved g c =
    let thread = c.in-Some-thread.thread in
    let more = into_iter_items c.next-in-loop-thread.new.self in
    let next = c.in-Some-thread.ensures.steps.0 in
    let seen = g.S.Sink.seen in
    let last : c.push-in-loop-thread.new.self.items ≡ c.loop-thread.ends.items ++ c.join.result ∷ [] = search rules in
    record {
      counted = λ made all.
          let was = c.loop-thread.invariant.counted made all in (
            All-rest (λ h. AreCounted seen made h.promise.0.value.files.items) thread more (into_iter_items c.loop-thread.thread-iterator) next was.0,
            subst (All (StillCounts seen made)) (sym last)
                (All-push (StillCounts seen made) c.loop-thread.ends.items c.join.result was.1 (λ ended.
                let took = c.join.ensures ended in
                files_counted seen made took.0 thread.promise.0.value.files.items c.join.result.files.files.items took.1
                (All-head (λ h. AreCounted seen made h.promise.0.value.files.items) thread more
                (subst (All (λ h. AreCounted seen made h.promise.0.value.files.items)) next was.0)))),
          );
    }

pub returns-in-Ok-into_passes : goal.returns-in-Ok-into_passes
returns-in-Ok-into_passes g c =
    let seen = g.S.Sink.seen in
    record {
      counted = λ made all.
          let begun = c.loop-side.invariant.counted made
          (subst (All (λ s. AreCounted seen made s.holdings.files.files.items)) (sym c.into_iter-side-iterator.ensures.into_iter_gives.0) all) in
          (c.loop-thread.invariant.counted made
          (subst (All (λ h. AreCounted seen made h.promise.0.value.files.items)) (sym c.into_iter-thread-iterator.ensures.into_iter_gives.0) begun.1)).1;
      told = search rules;
      stop = search rules;
    }
