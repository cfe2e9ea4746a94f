use Rattle.std.proofs.Common.{◌≡◌, map, take}
use Rattle.nm_book.specs.Merging.{kept_of}
use Rattle.nm_book.proofs.knowledge.copy_incoming.Given as goal

abbrev pub invariant-loop-number : goal.invariant-loop-number
invariant-loop-number l = map kept_of l.copies.items ≡ take l.number l.knows
