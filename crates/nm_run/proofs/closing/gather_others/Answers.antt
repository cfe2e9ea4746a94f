use Rattle.std.proofs.Common.{map, rules, sym, ap, ◌∙◌, arith}
use Rattle.std.proofs.lemmas.List.{length_push, map_push}
use Rattle.nm_run.specs.Passes.{pass_counts, more_of, one_more}
use Rattle.nm_run.proofs.Passing.{more_behind}
use Rattle.nm_run.proofs.closing.gather_others.Goals as goal

pub loop-other-preserved : goal.loop-other-preserved
loop-other-preserved c =
    let other = c.in-Some.other in
    let longer = length_push c.loop-other.yielded other in
    let counts = pass_counts c.args.passes.now in
    let books = map (λ p. p.book) c.loop-other.yielded in
    record {
      all = omega (arith, longer, c.loop-other.invariant.all, c.in_ok-add.ensures.one);
      each = c.in_ok-add.ensures.at ∙ ap (λ l. one_more l other.book) c.loop-other.invariant.each ∙ sym (more_behind counts books other.book)
          ∙ ap (more_of counts) (sym (map_push (λ p. p.book) c.loop-other.yielded other));
      books = search rules;
    }
