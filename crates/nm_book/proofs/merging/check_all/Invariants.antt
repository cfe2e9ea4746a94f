use Rattle.nm_book.specs.Merging.{AreJoinable}
use Rattle.nm_book.proofs.merging.check_all.Given as goal

abbrev pub invariant-loop-number : goal.invariant-loop-number
invariant-loop-number l = AreJoinable l.topology l.partition l.knows l.others.knows l.number
