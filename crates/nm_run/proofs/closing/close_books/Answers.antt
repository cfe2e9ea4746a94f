use Rattle.std.proofs.Common.{rules, subst, sym}
use Rattle.nm_shared.proofs.Pools.{all_more}
use Rattle.nm_run.specs.Report.{AreInPlace, IsInPlace}
use Rattle.nm_run.proofs.closing.close_books.Goals as goal

pub loop-book-preserved : goal.loop-book-preserved
loop-book-preserved c =
    let replicas = c.args.replicas in
    subst (AreInPlace replicas) (sym c.in_ok-push.ensures.items)
    (all_more (IsInPlace replicas) c.loop-book.closed.items c.in_ok-one.one c.loop-book.invariant (search rules))
