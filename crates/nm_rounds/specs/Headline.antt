-- What replicas did is what the network does, whatever befell them and their frames.
use Rattle.std.specs.Prelude.{◌≡◌, ℕ, ◌≤◌, true, false, List, length, slice_get, slice_index_or, Some}
use Rattle.nm_base.specs.declared.record.Record.{Record}
use Rattle.nm_topology.specs.Topology.{receiving_iface}
use Rattle.nm_topology.specs.TopologyValue.{TopologyValue}
use Rattle.nm_knowledge.specs.declared.answer.KnowFault.{KnowFault}
use Rattle.nm_knowledge.specs.declared.answer.KnowFault.TheVariants.{Gap}
use Rattle.nm_model.specs.Before.{IsBefore, events_at, history}
use Rattle.nm_model.specs.Join.{join}
use Rattle.nm_model.specs.Knowledge.{IsCompatible, IsUnder, IsValid, Know, nothing_known}
use Rattle.nm_model.specs.Lists.{nth, keep_where, IsPrefix}
use Rattle.nm_model.specs.Partition.{in_part, is_own_record}
use Rattle.nm_model.specs.Promise.{Promising}
use Rattle.nm_model.specs.Replica.{Agrees}
use Rattle.nm_model.specs.Run.{one_list, pends_before}
use Rattle.nm_sim.specs.Network.{net_of}
use Rattle.nm_sim.specs.Trace.{IsTraceBefore}
use Rattle.nm_book.specs.Book.{BookValue, is_incoming, is_outgoing, promise_on, safe_of, sent_over, state_of}
use Rattle.nm_book.specs.Sisters.{AreSisters, KnowTheSame}
use Rattle.nm_rounds.specs.declared.step.StepAnswer.{StepAnswer}
use Rattle.nm_rounds.specs.declared.step.StepAnswer.TheVariants.{All, Limit, Frames, Accepted, Refused, Merged, MergeRefused, Emptied}

-- all that comes by channel c before stop
abbrev pub IsHistory : TopologyValue → ℕ → List (ℕ × List ℕ) → Type 0
IsHistory t c messages =
    (n : ℕ) × IsBefore (net_of t) (net_of t).stop n
    × (messages ≡ history (net_of t) n (receiving_iface t c))

-- the records of a partition among those of the network
abbrev pub records_at : TopologyValue → ℕ → List (Record (List ℕ)) → List (Record (List ℕ))
records_at t p records = keep_where (is_own_record (net_of t) p) records

-- nothing is left before the safe time
abbrev pub HasRunAll : BookValue → Type 0
HasRunAll b = pends_before (safe_of b) (state_of b) ≡ false

-- a frame is refused for a gap alone
abbrev pub IsGap : KnowFault → Type 0
IsGap fault = (have : ℕ) × (fault ≡ Gap have)

-- and a merge never
abbrev pub IsNoRefusal : StepAnswer → Type 0
IsNoRefusal (All n) = Unit {0}
IsNoRefusal (Limit n) = Unit {0}
IsNoRefusal (Frames n) = Unit {0}
IsNoRefusal (Accepted a) = Unit {0}
IsNoRefusal (Refused f) = IsGap f
IsNoRefusal Merged = Unit {0}
IsNoRefusal (MergeRefused c f) = ⊥
IsNoRefusal Emptied = Unit {0}

module _ (t : TopologyValue) where
  -- what a replica did, knows, sent and promises is true of the network
  pub record IsTrue (b : BookValue) : Type 0 where
    -- the history of a channel that comes in begins with the messages that are known of it, and
    -- goes on at or after the clock
    pub knowledge : (c : ℕ) (messages : List (ℕ × List ℕ)) → is_incoming b c ≡ true
        → IsHistory t c messages
        → IsValid (slice_index_or b.knows c nothing_known) messages
    -- the history of a channel that goes out begins with what was sent on it, and goes on at or
    -- after each promise
    pub sent : (c : ℕ) (messages : List (ℕ × List ℕ)) → is_outgoing b c ≡ true
        → IsHistory t c messages → IsPrefix (sent_over b c) messages
    pub promises : (c n : ℕ) (messages : List (ℕ × List ℕ)) (m : ℕ × List ℕ)
        → is_outgoing b c ≡ true → IsHistory t c messages
        → length (sent_over b c) ≤ n → nth messages n ≡ Some m → (kind : Promising)
        → promise_on kind b c ≤ m.0
    -- the trace begins the one event list's trace of the partition, and is all of it before the
    -- safe time once what is safe has run
    pub trace : (all : List (Record (List ℕ))) → IsTraceBefore t t.stop all
        → IsPrefix (state_of b).records (records_at t b.partition all)
    pub exact : (all : List (Record (List ℕ))) → HasRunAll b → IsTraceBefore t (safe_of b) all
        → (state_of b).records ≡ records_at t b.partition all
    -- its state is the partition's in every state of the one event list that has done as many
    -- events there, and there is one
    pub reached : (n : ℕ) × (events_at (net_of t) (in_part (net_of t) b.partition) n ≡ b.events)
    pub state : (n : ℕ) → events_at (net_of t) (in_part (net_of t) b.partition) n ≡ b.events
        → Agrees (net_of t) b.partition (one_list (net_of t) n) (state_of b)

-- replicas that know the same are the same once both have run what is safe, or done as many events
pub record AreEqual (a b : BookValue) : Type 0 where
  pub events : HasRunAll a → HasRunAll b → a.events ≡ b.events
  pub states : a.events ≡ b.events → state_of a ≡ state_of b
  pub promises : a.events ≡ b.events → (kind : Promising) (c : ℕ)
      → promise_on kind a c ≡ promise_on kind b c

-- What two replicas know of a channel: some history has both, and their join is the least that both
-- are under. A merge leaves the join.
pub record HaveJoin (a b : Know (List ℕ)) : Type 0 where
  pub compatible : IsCompatible a b
  pub left : IsUnder a (join a b)
  pub right : IsUnder b (join a b)
  pub least : (d : Know (List ℕ)) → IsUnder a d → IsUnder b d → IsUnder (join a b) d

-- The headline. Whatever ran, was sent, came late, again, out of order or never, was merged or
-- restarted: of each replica all is true of the network that the one event list runs; only a gap is
-- refused, and no merge; equal knowledge makes equal replicas; and what two replicas of a partition
-- know has a join.
pub record Headline (t : TopologyValue) (answers : List StepAnswer)
    (books : List BookValue) : Type 0 where
  pub true_books : (i : ℕ) (b : BookValue) → slice_get books i ≡ Some b → IsTrue t b
  pub no_refusals : (i : ℕ) (a : StepAnswer) → slice_get answers i ≡ Some a → IsNoRefusal a
  pub equal_books : (i j : ℕ) (a b : BookValue) → slice_get books i ≡ Some a
      → slice_get books j ≡ Some b → KnowTheSame a b → AreEqual a b
  pub joins : (i j c : ℕ) (a b : BookValue) → slice_get books i ≡ Some a
      → slice_get books j ≡ Some b → AreSisters a b → is_incoming a c ≡ true
      → HaveJoin (slice_index_or a.knows c nothing_known) (slice_index_or b.knows c nothing_known)
