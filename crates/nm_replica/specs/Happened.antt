-- What happened at a poll of a replica.
use Rattle.std.specs.Prelude.{◌≡◌, ◌⊎◌, ℕ, ◌==◌, ◌||◌, Bool, true, not, List, Option}
use Rattle.nm_base.specs.Sink.{SinkSeen}
use Rattle.nm_pcap.specs.Writer.{Writer}
use Rattle.nm_replica.specs.Recording.{WroteAsCounted}
use Rattle.nm_replica.specs.Served.{AllWereFinished, HasStayed, WasFinished}
use Rattle.nm_replica.specs.Turns.{Links, MayDoMore, WaitsAndServes}
use Rattle.nm_replica.specs.declared.polling.Polled.{Polled}
use Rattle.nm_replica.specs.declared.serving.Serving.{Serving}

-- The connections waited and had their turns, records were written, and the book did events or not.
-- If the replica is done, its book was seen to be done, whether that keeps its records or not; and
-- it has stayed, or each of so many replicas of the run was seen to be done. The next poll does not
-- wait exactly if records may be left to hand out, or more may be done.
abbrev pub Happens : {W S : Type 0} → Links W → (S → SinkSeen) → (limits : Bool × ℕ)
    → (old new : Serving W) → (files : List (Option (Writer S)) × List (Option (Writer S)))
    → Polled → Type 0
Happens l seen (keeps_records, replicas) old new (before, after) p =
    WaitsAndServes l p.ran_out old.connections new.connections p.moved p.octets p.said
    × WroteAsCounted seen l.owner.exact l.owner.home p.written before after
    × (p.was_run ≡ not (new.events == old.events))
    × (p.is_done ≡ true → WasFinished l.owner.exact l.owner.home keeps_records)
    × (p.is_done ≡ true → HasStayed p.ran_out new.connections.contacts old.stay new.stay
    ⊎ AllWereFinished replicas)
    × MayDoMore p.said p.runs_on new.connections.open p.has_more
    × (new.is_busy ≡ (p.has_records || p.has_more))
