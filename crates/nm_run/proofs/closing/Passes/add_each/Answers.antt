use Rattle.std.proofs.Common.{◌≡◌, ◌+◌, length, rules, sym, ap, ◌∙◌, arith}
use Rattle.std.specs.List.{range_with_len}
use Rattle.std.proofs.lemmas.List.{length_push}
use Rattle.nm_run.specs.Passes.{pass_counts, more_of, one_more}
use Rattle.nm_run.proofs.Passing.{more_in_order}
use Rattle.nm_run.proofs.closing.Passes.add_each.Goals as goal

pub loop-book-preserved : goal.loop-book-preserved
loop-book-preserved c =
    let was = c.loop-book.invariant in
    let n = length c.loop-book.yielded in
    let counts = pass_counts c.args.self.now in
    let longer = length_push c.loop-book.yielded (c.in-Some.book, c.in-Some.pass) in
    let steps = c.in-Some.ensures.steps in
    let book : c.in-Some.book ≡ n = search rules in
    let count : c.next.new.self.count ≡ n + 1 = search rules in
    record {
      all = omega (arith, longer, was.all, c.in_ok-add.ensures.one);
      count = count ∙ sym longer;
      each = c.in_ok-add.ensures.at ∙ ap (λ l. one_more l c.in-Some.book) was.each ∙ ap (λ b. one_more (more_of counts (range_with_len 0 n)) b) book
          ∙ sym (more_in_order counts n) ∙ ap (λ k. more_of counts (range_with_len 0 k)) (sym longer);
      books = search rules;
    }
