use Rattle.std.proofs.Common.{ℕ, List}
use Rattle.nm_model.specs.World.{Replica}
use Rattle.nm_rounds.specs.Rounds.{AreRounds}
use Rattle.nm_rounds.proofs.RoundEnds.{HaveRun}
use Rattle.nm_rounds.proofs.rounds.do_rounds.Given as goal

abbrev pub invariant-loop-round : goal.invariant-loop-round
invariant-loop-round l =
    (by_round : ℕ → ℕ → Replica (List ℕ)) (are : AreRounds l.topology by_round) → HaveRun l.topology by_round are l.round l.books.items
