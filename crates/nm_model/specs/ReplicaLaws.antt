-- What holds of a partition that computes from its knowledge alone.
use Rattle.std.specs.Prelude.{◌≡◌, ℕ, ◌≤◌, length, [], ◌∷◌, ◌++◌, None}
use Rattle.std.specs.FinMap.{get, insert}
use Rattle.nm_base.specs.declared.key.Place.TheVariants.{Arrive}
use Rattle.nm_base.specs.declared.event.Event.TheVariants.{Delivery}
use Rattle.nm_base.specs.declared.event.Origin.TheVariants.{Arrival}
use Rattle.nm_base.specs.Key.{key_of}
use Rattle.nm_model.specs.Lists.{IsPrefix, set_at}
use Rattle.nm_model.specs.Network.{Net}
use Rattle.nm_model.specs.Run.{one_list}
use Rattle.nm_model.specs.Knowledge.{Knowledge}
use Rattle.nm_model.specs.Partition.{in_part}
use Rattle.nm_model.specs.Replica.{from_scratch, safe_time, IsWithin, with_new, Agrees}
use Rattle.nm_model.specs.Promise.{Promising, promise}
use Rattle.nm_model.specs.Before.{IsBefore, IsCount, events_at, trace}

module _ {P N : Type 0} (net : Net P N) where
  -- partition p, over this knowledge, computes its part of the whole network: each of its states is
  -- the cut of a state of the network, and its trace begins that of the network, or is all of it
  pub record IsCutOf (p : ℕ) (K : Knowledge P) : Type 0 where
    pub agrees : (k n : ℕ) → IsWithin net p K k → events_at net (in_part net p) n ≡ k
        → Agrees net p (one_list net n) (from_scratch net p K k)
    pub reached : (k last : ℕ) → IsWithin net p K k → IsBefore net net.stop last
        → (n : ℕ) × (n ≤ last) × (events_at net (in_part net p) n ≡ k)
    pub prefix : (k last : ℕ) → IsWithin net p K k → IsBefore net net.stop last
        → IsPrefix (from_scratch net p K k).records (trace net p last)
    pub exact : (k n : ℕ) → IsCount net p K k → IsBefore net (safe_time net p K) n
        → (from_scratch net p K k).records ≡ trace net p n

  -- over more knowledge partition p is as before, with the new messages pending
  pub record StaysOver (p : ℕ) (K J : Knowledge P) (k : ℕ) : Type 0 where
    pub same : from_scratch net p J k ≡ with_new net p K J (from_scratch net p K k)
    pub within : IsWithin net p J k

  -- to take one more message of channel c is to put one new event, and to raise its clock changes
  -- nothing
  pub record TakesOneMore (p : ℕ) (K : Knowledge P) (k c : ℕ) : Type 0 where
    pub new_key : (b : ℕ × P) → (K c).clock ≤ b.0
        → get (from_scratch net p K k).pending (key_of b.0 (Arrive c) (length (K c).list)) ≡ None
    pub message : (b : ℕ × P) → (K c).clock ≤ b.0
        → from_scratch net p (set_at K c (record { list = (K c).list ++ b ∷ []; clock = b.0 })) k
        ≡ record (from_scratch net p K k) {
          pending = insert (from_scratch net p K k).pending
              (key_of b.0 (Arrive c) (length (K c).list)) (Delivery (Arrival c) b.1);
        }
    pub clock : (t : ℕ) → (K c).clock ≤ t
        → from_scratch net p (set_at K c (record { list = (K c).list; clock = t })) k
        ≡ from_scratch net p K k

  -- what partition p put on its channels and recorded stays, with more knowledge and more events
  pub record HasGrown (p : ℕ) (K J : Knowledge P) (k m : ℕ) : Type 0 where
    pub sent : (c : ℕ)
        → IsPrefix ((from_scratch net p K k).sent c) ((from_scratch net p J m).sent c)
    pub records : IsPrefix (from_scratch net p K k).records (from_scratch net p J m).records

  -- replicas that know the same of each incoming channel have the same states, and make the same
  -- promises
  pub record AreEqualStates (p : ℕ) (K J : Knowledge P) : Type 0 where
    pub states : (k : ℕ) → IsWithin net p K k → from_scratch net p J k ≡ from_scratch net p K k
    pub within : (k : ℕ) → IsWithin net p K k → IsWithin net p J k
    pub promises : (kind : Promising) (k c : ℕ) → IsWithin net p K k
        → promise net kind p J k c ≡ promise net kind p K k c
