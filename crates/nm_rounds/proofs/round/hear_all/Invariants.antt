use Rattle.std.proofs.Common.{ℕ, List, length, map}
use Rattle.nm_model.specs.World.{Replica}
use Rattle.nm_rounds.specs.Rounds.{AreAllNews, AreBooks}
use Rattle.nm_rounds.proofs.RoundHears.{HaveHeard}
use Rattle.nm_rounds.proofs.round.hear_all.Given as goal

abbrev pub invariant-loop-number : goal.invariant-loop-number
invariant-loop-number l =
    (x : ℕ → Replica (List ℕ)) → AreBooks l.topology l.topology.partitions x l.fn.books.items
    → AreAllNews l.topology x (length l.topology.receivers) (map (λ messages. messages.items) l.news)
    → HaveHeard l.topology x l.number l.books.items
