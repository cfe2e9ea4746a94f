use Rattle.nm_run.specs.Report.{AreInPlace}
use Rattle.nm_run.proofs.closing.close_books.Given as goal

abbrev pub invariant-loop-book : goal.invariant-loop-book
invariant-loop-book l = AreInPlace l.replicas l.closed.items
