use Rattle.std.proofs.Common.{length, ap, sym, subst, ◌∙◌, arith}
use Rattle.std.proofs.lemmas.List.{length-map}
use Rattle.nm_shared.specs.Pool.{IsRunAnswer}
use Rattle.nm_shared.proofs.Pools.{index_map}
use Rattle.nm_shared.proofs.workers.work.run_one.Goals as goal

pub invariant_of-result : goal.invariant_of-result
invariant_of-result g c =
    let run = c.in_ok-partition in
    let limit_is = sym (index_map (λ j. j.limit) c.args.jobs.now c.args.place (record { book = 0; limit = 0 }) g.J.Jobs.limits c.requires.limits c.requires.place) in
    record {
      there = (let l = ap length c.requires.books ∙ length-map c.args.jobs.now (λ j. j.book) in omega (arith, l, c.requires.place));
      book_is = sym (index_map (λ j. j.book) c.args.jobs.now c.args.place (record { book = 0; limit = 0 }) g.J.Jobs.books c.requires.books c.requires.place);
      runs = subst (λ k. IsRunAnswer k run.field-0.answer) limit_is run.ensures.runs;
      counted = run.ensures.counted;
    }
