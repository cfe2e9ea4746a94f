use Rattle.std.proofs.Common.{◌≡◌, replicate}
use Rattle.nm_model.specs.Knowledge.{nothing_known}
use Rattle.nm_book.proofs.book.nothing_known.Given as goal

abbrev pub invariant-loop-number : goal.invariant-loop-number
invariant-loop-number l = l.knows.items ≡ replicate l.number nothing_known
