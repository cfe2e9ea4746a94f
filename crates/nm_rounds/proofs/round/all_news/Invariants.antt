use Rattle.std.proofs.Common.{ℕ, List, map}
use Rattle.nm_model.specs.World.{Replica}
use Rattle.nm_rounds.specs.Rounds.{AreAllNews, AreBooks}
use Rattle.nm_rounds.proofs.round.all_news.Given as goal

abbrev pub invariant-loop-number : goal.invariant-loop-number
invariant-loop-number l =
    (x : ℕ → Replica (List ℕ)) → AreBooks l.topology l.topology.partitions x l.books
    → AreAllNews l.topology x l.number (map (λ messages. messages.items) l.news.items)
