-- The result of rounds of all partitions: each runs all that is safe, and then gets all that the
-- others have for it.
use Rattle.std.specs.Prelude.{◌≡◌, ℕ, suc, ◌+◌, ◌-◌, ◌^◌, min, ◌<◌, ◌≤◌, Bool, true, false, List, [], ◌∷◌, length, map, slice_get, Option, Some, None, Result, Ok, Err}
use Rattle.std.specs.List.{fold}
use Rattle.nm_base.specs.declared.fault.Fault.{Fault}
use Rattle.nm_base.specs.declared.fault.Fault.TheVariants.{Refused, Memory}
use Rattle.nm_topology.specs.declared.fault.Refusal.{Refusal}
use Rattle.nm_topology.specs.Topology.{receiving_iface, topology_of}
use Rattle.nm_topology.specs.TopologyValue.{TopologyValue}
use Rattle.nm_knowledge.specs.Octets.{same_octets}
use Rattle.nm_model.specs.Accept as accept
use Rattle.nm_model.specs.Before.{IsBefore, IsCount, trace}
use Rattle.nm_model.specs.Certificate.{is_done}
use Rattle.nm_model.specs.Knowledge.{Know}
use Rattle.nm_model.specs.Partition.{comes_in, receiver_of}
use Rattle.nm_model.specs.Promise.{Tight, lookahead}
use Rattle.nm_model.specs.Rounds.{IsRounds, given, hear, heard_on, promised, round_count}
use Rattle.nm_model.specs.World.{Replica}
use Rattle.nm_sim.specs.Network.{net_of}
use Rattle.nm_book.specs.Book.{BookValue, knowledge, message_channel, promise_on, replica_of, safe_of, sent_over, state_of}
use Rattle.nm_book.specs.declared.message.ChannelMessage.{ChannelMessage}
use Rattle.nm_book.specs.declared.message.ChannelMessage.TheVariants.{Data, Null}
use Rattle.nm_rounds.specs.World.{IsReplicaOf}
use Rattle.nm_rounds.specs.declared.rounds.Rounds.{Rounds}
use Rattle.nm_rounds.specs.declared.rounds.Rounds.TheVariants.{Done, Unfinished}

-- the books are those of the first n partitions in turn, each the model's replica 0 of its
-- partition
pub record AreBooks (t : TopologyValue) (n : ℕ) (x : ℕ → Replica (List ℕ))
    (books : List BookValue) : Type 0 where
  pub count : length books ≡ n
  pub each : (p : ℕ) (b : BookValue) → slice_get books p ≡ Some b → IsReplicaOf t p 0 b (x p)

-- the replicas of all partitions after each round, with null messages that carry the tight promise
abbrev pub AreRounds : TopologyValue → (ℕ → ℕ → Replica (List ℕ)) → Type 0
AreRounds t by_round = IsRounds (net_of t) same_octets Tight by_round

-- in the round after j of them, once all have run and before any delivery
abbrev pub after_runs : (ℕ → ℕ → Replica (List ℕ)) → ℕ → ℕ → Replica (List ℕ)
after_runs by_round j p = record {
  knowledge = (by_round j p).knowledge;
  ran = (by_round (suc j) p).ran;
}

-- after all deliveries
abbrev pub after_hearing : TopologyValue → (ℕ → Replica (List ℕ)) → ℕ → Replica (List ℕ)
after_hearing t x p = record {
  knowledge = heard_on (net_of t) same_octets Tight x p;
  ran = (x p).ran;
}

-- a book did all that is before its safe time: the number of its events alone changes
pub record RunsAll (old new : BookValue) : Type 0 where
  pub count : IsCount (net_of old.topology) old.partition (knowledge old) new.events
  pub same : new ≡ record old { events = new.events }

-- what is known of a channel after a message of it came
abbrev pub told_message : Know (List ℕ) → ChannelMessage → Know (List ℕ)
told_message a (Data d) = (accept.accept_data same_octets a d.number (d.time, d.packet)).after
told_message a (Null n) = (accept.accept_null a n.count n.clock).after

-- once these were, one after another
abbrev pub told_all : Know (List ℕ) → List ChannelMessage → Know (List ℕ)
told_all a [] = a
told_all a (m ∷ ms) = told_all (told_message a m) ms

-- the time before which all of these books are safe
abbrev pub least_safe : List BookValue → ℕ
least_safe books = fold min (2 ^ 64 - 1) (map safe_of books)

-- each of the messages is of channel c
abbrev pub AreOfChannel : ℕ → List ChannelMessage → Type 0
AreOfChannel c messages =
    (i : ℕ) (m : ChannelMessage) → slice_get messages i ≡ Some m → message_channel m ≡ c

-- to a receiver that knows a of channel c, the messages bring the sender's news: all new messages,
-- and then the null message
pub record AreNews (a : Know (List ℕ)) (sender : BookValue) (c : ℕ)
    (messages : List ChannelMessage) : Type 0 where
  pub told : told_all a messages
      ≡ hear same_octets a (sent_over sender c) (promise_on Tight sender c)
  pub named : AreOfChannel c messages

-- the same of the model's replicas
pub record AreNewsOf (t : TopologyValue) (x : ℕ → Replica (List ℕ)) (c : ℕ)
    (messages : List ChannelMessage) : Type 0 where
  pub told :
      let i = receiving_iface t c in
      let a = (x (receiver_of (net_of t) i)).knowledge i in
      told_all a messages
      ≡ hear same_octets a (given (net_of t) x i) (promised (net_of t) x Tight i)
  pub named : AreOfChannel c messages

-- and of the first n channels
pub record AreAllNews (t : TopologyValue) (x : ℕ → Replica (List ℕ)) (n : ℕ)
    (news : List (List ChannelMessage)) : Type 0 where
  pub count : length news ≡ n
  pub each : (c : ℕ) (messages : List ChannelMessage) → slice_get news c ≡ Some messages
      → AreNewsOf t x c messages

-- nothing is left for a book to do; or for one of the books something is
abbrev pub IsFinished : BookValue → Bool → Type 0
IsFinished b v = is_done (net_of b.topology) b.partition (replica_of b) ≡ v

abbrev pub AllAreFinished : List BookValue → Bool → Type 0
AllAreFinished books true = (p : ℕ) (b : BookValue) → slice_get books p ≡ Some b → IsFinished b true
AllAreFinished books false =
    (p : ℕ) × (b : BookValue) × (slice_get books p ≡ Some b) × IsFinished b false

-- a partition is not done in the round after j of them
abbrev pub IsLeft : TopologyValue → (ℕ → ℕ → Replica (List ℕ)) → ℕ → Type 0
IsLeft t by_round j =
    (p : ℕ) × (p < t.partitions) × (is_done (net_of t) p (after_runs by_round j p) ≡ false)

-- The books in the round after j of them: all are done, and nothing more was delivered; or one is
-- not done, and all was delivered.
abbrev pub EndsRound : TopologyValue → (ℕ → ℕ → Replica (List ℕ)) → ℕ → Bool → List BookValue
    → Type 0
EndsRound t by_round j true books =
    AreBooks t t.partitions (after_runs by_round j) books × AllAreFinished books true
EndsRound t by_round j false books =
    AreBooks t t.partitions (by_round (suc j)) books × IsLeft t by_round j

-- nothing is left for the book of partition p to do, and it has the whole trace of the partition
pub record IsWhole (t : TopologyValue) (p : ℕ) (b : BookValue) : Type 0 where
  pub done : is_done (net_of t) p (replica_of b) ≡ true
  pub trace : (last : ℕ) → IsBefore (net_of t) (net_of t).stop last
      → (state_of b).records ≡ trace (net_of t) p last

-- Each book is whole in this round, one of at most so many, and it is the first in which all are
-- done.
pub record AreDoneWithin (t : TopologyValue) (max rounds : ℕ)
    (books : List BookValue) : Type 0 where
  pub some : 1 ≤ rounds
  pub few : rounds ≤ max
  pub by_round : ℕ → ℕ → Replica (List ℕ)
  pub are : AreRounds t by_round
  pub stand : AreBooks t t.partitions (after_runs by_round (rounds - 1)) books
  pub first : (j : ℕ) → j + 1 < rounds → IsLeft t by_round j
  pub whole : (p : ℕ) (b : BookValue) → slice_get books p ≡ Some b → IsWhole t p b

-- In each of the rounds some book was not done, and there were as many rounds as were asked for.
-- That is so only if there is a channel, and if stop divided by any lookahead that each channel
-- has, rounded up, and one more are past the rounds.
pub record AreUnfinished (t : TopologyValue) (max rounds : ℕ)
    (books : List BookValue) : Type 0 where
  pub all : rounds ≡ max
  pub by_round : ℕ → ℕ → Replica (List ℕ)
  pub are : AreRounds t by_round
  pub stand : AreBooks t t.partitions (by_round max) books
  pub left : (j : ℕ) → j < max → IsLeft t by_round j
  pub channels : length t.receivers ≡ 0 → ⊥
  pub enough : (lead : ℕ) → 1 ≤ lead
      → ((p c : ℕ) → comes_in (net_of t) p c ≡ true → lead ≤ lookahead (net_of t) Tight c)
      → round_count (net_of t).stop lead + 1 ≤ max → ⊥

-- in which round all are done, or that none of so many is that
abbrev pub AreEnded : TopologyValue → ℕ → Option ℕ → List BookValue → Type 0
AreEnded t max (Some rounds) books = AreDoneWithin t max rounds books
AreEnded t max None books = AreUnfinished t max max books

-- The result of rounds over a network, at most so many.
abbrev pub RunsTo : TopologyValue → ℕ → Rounds → Type 0
RunsTo t max (Done rounds books) = AreDoneWithin t max rounds books.items
RunsTo t max (Unfinished rounds books) = AreUnfinished t max rounds books.items

-- and over a text: it is read to the topology of these books, or it is refused; or memory was
abbrev pub ComesTo : List ℕ → ℕ → Result Rounds (Fault Refusal) → Type 0
ComesTo text max (Ok rounds) =
    (t : TopologyValue) × (topology_of text ≡ Ok t) × RunsTo t max rounds
ComesTo text max (Err (Refused r)) = topology_of text ≡ Err r
ComesTo text max (Err Memory) = Unit {0}
