use Rattle.std.proofs.Common.{◌<◌, ◌++◌, length, map, take, sym, ◌∙◌, subst, arith, rules}
use Rattle.nm_files.specs.Outputs.{AreWhole}
use Rattle.nm_run.specs.Files.{kept_file}
use Rattle.nm_run.proofs.Kept.{firsts, one_book_more}
use Rattle.nm_run.proofs.keeping.keep_books.Goals as goal

pub loop-number-preserved : goal.loop-number-preserved
loop-number-preserved g c =
    let n = c.loop-number.number in
    let books = c.args.books.now in
    let folder = c.args.plan.now.folder.now in
    let low : n < length books = search rules in
    let same = c.loop-number.invariant.same in
    let closed = g.F.Outputs.closed in
    let known = c.keep_one.new.known.items in
    let made = g.F.Outputs.made in
    record {
      within = omega (arith, low);
      so_far = subst (AreWhole (made c.args.outputs.now) (map closed known)) (sym (one_book_more folder books n c.index-books-number.result low c.index-books-number.is))
          (subst (λ m. AreWhole m (map closed known) (firsts folder (take n books) ++ kept_file folder c.index-books-number.result)) same (c.in_ok-keep_one.ensures.kept (firsts folder (take n books)) (subst (λ m. AreWhole m (map closed c.loop-number.known.items) (firsts folder (take n books))) (sym same) c.loop-number.invariant.so_far)));
      same = c.in_ok-keep_one.ensures.same ∙ same;
    }
