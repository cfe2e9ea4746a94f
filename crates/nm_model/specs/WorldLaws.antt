-- What holds after every list of steps of the world.
use Rattle.std.specs.Prelude.{◌≡◌, ℕ, ◌≤◌, Bool, true, length, List, Some}
use Rattle.nm_model.specs.Lists.{nth, IsPrefix}
use Rattle.nm_model.specs.Network.{Net}
use Rattle.nm_model.specs.Accept.{IsReflexive}
use Rattle.nm_model.specs.Knowledge.{Knowledge}
use Rattle.nm_model.specs.Run.{one_list}
use Rattle.nm_model.specs.Partition.{in_part, comes_in, goes_out}
use Rattle.nm_model.specs.Promise.{Promising, promise}
use Rattle.nm_model.specs.Replica.{safe_time, IsWithin, Agrees}
use Rattle.nm_model.specs.Before.{IsBefore, IsCount, IsKnowledge, events_at, history, trace}
use Rattle.nm_model.specs.World.{Replica, Step, opening, answers, state_of, outgoing}
use Rattle.nm_model.specs.World.{replica_after, AllFine}

module _ {P N : Type 0} (net : Net P N) where
  -- what holds of a replica of partition p, whatever it received of the network
  pub record IsTrueReplica (p : ℕ) (x : Replica P) : Type 0 where
    -- all that it knows is true of the network
    pub valid : IsKnowledge net p x.knowledge
    pub within : IsWithin net p x.knowledge x.ran
    -- its trace is a beginning of the network's trace of the partition, and exactly that before the
    -- safe time, once what is safe has run
    pub prefix : (last : ℕ) → IsBefore net net.stop last
        → IsPrefix (state_of net p x).records (trace net p last)
    pub exact : (n : ℕ) → IsCount net p x.knowledge x.ran
        → IsBefore net (safe_time net p x.knowledge) n → (state_of net p x).records ≡ trace net p n
    -- its state is the cut of the network's
    pub agrees : (n : ℕ) → events_at net (in_part net p) n ≡ x.ran
        → Agrees net p (one_list net n) (state_of net p x)
    -- what it sent is a beginning of what the network sends, and what the network sends past it
    -- keeps its promise
    pub sent : (c last : ℕ) → IsBefore net net.stop last → goes_out net p c ≡ true
        → IsPrefix (outgoing net p x c) (history net last c)
    pub promised : (c last : ℕ) → IsBefore net net.stop last → goes_out net p c ≡ true
        → (i : ℕ) (b : ℕ × P) → length (outgoing net p x c) ≤ i
        → nth (history net last c) i ≡ Some b
        → (kind : Promising) → promise net kind p x.knowledge x.ran c ≤ b.0

  -- a replica of partition p has the whole trace that the network has there
  abbrev pub HasWholeTrace : ℕ → Replica P → Type 0
  HasWholeTrace p x = (last : ℕ) → IsBefore net net.stop last
      → (state_of net p x).records ≡ trace net p last

  -- two replicas of partition p that know the same of each channel that comes in, and have done as
  -- many events, have one state and make the same promises
  pub record AreEqualReplicas (p : ℕ) (x y : Replica P) : Type 0 where
    pub states : state_of net p x ≡ state_of net p y
    pub promises : (kind : Promising) (c : ℕ)
        → promise net kind p x.knowledge x.ran c ≡ promise net kind p y.knowledge y.ran c

  abbrev pub KnowAlike : ℕ → Replica P → Replica P → Type 0
  KnowAlike p x y =
      ((c : ℕ) → comes_in net p c ≡ true → x.knowledge c ≡ y.knowledge c) × (x.ran ≡ y.ran)

  -- what replicas of a partition know of the channels that come in decides what they are
  pub record KnowledgeDecides : Type 0 where
    -- those that know alike and did as many events are equal, in one world or in two
    pub replicas : (same : P → P → Bool) → IsReflexive same
        → (steps others : List Step) (p r s : ℕ)
        → let x = replica_after net same steps p r in let y = replica_after net same others p s in
        KnowAlike p x y → AreEqualReplicas p x y
    -- and once both have run all that is safe, they did as many
    pub counts : (p : ℕ) (K J : Knowledge P) → ((c : ℕ) → comes_in net p c ≡ true → K c ≡ J c)
        → (j k : ℕ) → IsCount net p K j → IsCount net p J k → j ≡ k

module _ {P N : Type 0} (net : Net P N) (same : P → P → Bool) where
  pub record PrefixTheorem (steps : List Step) : Type 0 where
    pub replicas : (p r : ℕ) → IsTrueReplica net p (replica_after net same steps p r)
    -- only gaps are refused
    pub only_gaps : AllFine (answers net same steps opening)
