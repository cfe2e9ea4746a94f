use Rattle.std.proofs.Common.{All, take}
use Rattle.nm_rounds.specs.SameTopology.{SaysSame}
use Rattle.nm_rounds.proofs.certify.are_of.Given as goal

abbrev pub invariant-loop-book : goal.invariant-loop-book
invariant-loop-book l = All (λ b. SaysSame b.now.topology l.topology) (take l.book-index l.books)
