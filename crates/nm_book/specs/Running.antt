-- What a run of a replica does.
use Rattle.std.specs.Prelude.{◌≡◌, ℕ, ◌+◌, ◌<◌, true, List}
use Rattle.nm_topology.specs.TopologyValue.{TopologyValue}
use Rattle.nm_model.specs.Before.{IsCount}
use Rattle.nm_model.specs.Knowledge.{Knowledge}
use Rattle.nm_model.specs.Replica.{from_scratch, safe_time}
use Rattle.nm_model.specs.Run.{pends_before}
use Rattle.nm_model.specs.World.{advance}
use Rattle.nm_sim.specs.Network.{net_of}
use Rattle.nm_book.specs.Book.{BookValue, knowledge}
use Rattle.nm_book.specs.declared.running.Ran.{Ran}
use Rattle.nm_book.specs.declared.running.Ran.TheVariants.{All, Limit, Memory}

-- A replica of partition p over K had done k events, was asked for at most so many before the safe
-- time, and had done m after: all of them, if nothing is left before the safe time; as many as were
-- asked for, if some are left; or fewer, each of them whole, if some are left and memory was
-- refused.
abbrev pub HasRun : TopologyValue → ℕ → Knowledge (List ℕ) → ℕ → ℕ × ℕ → Ran → Type 0
HasRun t p K limit done (All n) =
    (done.1 ≡ done.0 + n) × (done.1 ≡ advance (net_of t) p K limit done.0)
    × IsCount (net_of t) p K done.1
HasRun t p K limit done (Limit n) =
    (done.1 ≡ done.0 + n) × (done.1 ≡ advance (net_of t) p K limit done.0) × (n ≡ limit)
    × (pends_before (safe_time (net_of t) p K) (from_scratch (net_of t) p K done.1) ≡ true)
HasRun t p K limit done (Memory n) =
    (done.1 ≡ done.0 + n) × (done.1 ≡ advance (net_of t) p K n done.0) × (n < limit)
    × (pends_before (safe_time (net_of t) p K) (from_scratch (net_of t) p K done.1) ≡ true)

-- a book ran: the number of its events alone changes
pub record Runs (old new : BookValue) (limit : ℕ) (ran : Ran) : Type 0 where
  pub run : HasRun old.topology old.partition (knowledge old) limit (old.events, new.events) ran
  pub same : new ≡ record old { events = new.events }
