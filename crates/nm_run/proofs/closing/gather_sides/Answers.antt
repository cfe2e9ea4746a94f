use Rattle.std.proofs.Common.{All, length, rules, sym, ap, ◌∙◌, subst, arith}
use Rattle.std.specs.List.{range_with_len}
use Rattle.nm_run.proofs.Passing.{more_of_each}
use Rattle.std.proofs.lemmas.List.Elements.{All-head, All-push, All-rest}
use Rattle.std.proofs.lemmas.List.Sums.{sum_by_push}
use Rattle.std.specs.Vec.Iter.{into_iter_items}
use Rattle.nm_files.specs.Files.{AreCounted}
use Rattle.nm_run.specs.Passes.{pass_counts, given_back, more_of, one_more, side_books}
use Rattle.nm_run.proofs.closing.gather_sides.Goals as goal

pub loop-end-preserved : goal.loop-end-preserved
loop-end-preserved g c = record {
  passes =
      let sum = sum_by_push given_back c.loop-end.yielded c.in-Some.end in
      omega (arith, sum, c.loop-end.invariant.passes, c.in_ok-add.ensures.one, c.in_ok-add_each.ensures.all);
  each =
      let end = c.in-Some.end in
      let own = c.in_ok-add.ensures.at ∙ ap (λ l. one_more l end.index) c.loop-end.invariant.each in
      c.in_ok-add_each.ensures.each ∙ ap (λ l. more_of l (range_with_len 0 (length end.passes.items))) own
      ∙ sym (more_of_each side_books (pass_counts c.args.passes.now) c.loop-end.yielded end);
  books = search rules;
  files = λ made all.
      let was = c.loop-end.invariant.files made all in
      let next = c.in-Some.ensures.steps.0 in
      let seen = g.S.Sink.seen in
      let end = c.in-Some.end in
      let more = into_iter_items c.next.new.self in (
        All-rest (λ e. AreCounted seen made e.files.files.items) end more (into_iter_items c.loop-end.end-iterator) next was.0,
        subst (All (λ own. AreCounted seen made own.files.items)) (sym c.in_ok-push.ensures.items)
            (All-push (λ own. AreCounted seen made own.files.items) c.loop-end.files.items end.files was.1
            (All-head (λ e. AreCounted seen made e.files.files.items) end more (subst (All (λ e. AreCounted seen made e.files.files.items)) next was.0))),
      );
}

pub returns-clause-files : goal.returns-clause-files
returns-clause-files g c = λ made all. (c.loop-end.invariant.files made all).1
