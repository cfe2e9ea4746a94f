use Rattle.std.specs.Arc.{arc_value}
use Rattle.nm_model.specs.World.{fresh}
use Rattle.nm_rounds.specs.Rounds.{AreBooks}
use Rattle.nm_rounds.proofs.rounds.first_books.Given as goal

abbrev pub invariant-loop-partition : goal.invariant-loop-partition
invariant-loop-partition l = AreBooks (arc_value l.topology) l.partition (λ p. fresh) l.books.items
