use Rattle.std.proofs.Common.{◌≡◌, ℕ, List}
use Rattle.nm_topology.specs.TopologyValue.{TopologyValue}
use Rattle.nm_model.specs.Before.{IsCount}
use Rattle.nm_model.specs.World.{Replica}
use Rattle.nm_sim.specs.Network.{net_of}
use Rattle.nm_rounds.specs.Rounds.{AreBooks}
use Rattle.nm_rounds.proofs.RoundBooks.{up_to}
use Rattle.nm_rounds.proofs.round.run_all.Given as goal

abbrev pub invariant-loop-number : goal.invariant-loop-number
invariant-loop-number l =
    (t : TopologyValue) (x y : ℕ → Replica (List ℕ)) → AreBooks t t.partitions x l.fn.books.items
    → ((p j k : ℕ) → IsCount (net_of t) p (x p).knowledge j → IsCount (net_of t) p (x p).knowledge k → j ≡ k)
    → ((p : ℕ) → IsCount (net_of t) p (x p).knowledge (y p).ran) → ((p : ℕ) → (y p).knowledge ≡ (x p).knowledge)
    → AreBooks t t.partitions (up_to l.number y x) l.books.items
