-- What a replica did stays over its calls.
use Rattle.std.proofs.Common.{◌≡◌, ℕ, zero, suc, ◌≤◌, Bool, true, false, cond, List, [], ◌∷◌, length, slice_index_or, slice_set, Option, Some, None, Result, Ok, Err, refl, sym, subst, ap, ◌∙◌, arith, ⊎_elim}
use Rattle.std.proofs.lemmas.Bool.{cases_lt}
use Rattle.nm_knowledge.specs.Octets.{same_octets}
use Rattle.nm_knowledge.specs.declared.answer.Accepted.{Accepted}
use Rattle.nm_model.specs.Accept as model
use Rattle.nm_model.specs.Join.{join, join_fault}
use Rattle.nm_model.specs.Knowledge.{IsKnow, IsUnder, Know, nothing_known}
use Rattle.nm_model.specs.Lists.{IsPrefix}
use Rattle.nm_model.specs.Partition.{comes_in}
use Rattle.nm_model.specs.Replica.{IsUnderAll, IsWithin, from_scratch}
use Rattle.nm_sim.specs.Network.{net_of}
use Rattle.nm_topology.specs.Topology.{channel_from, receiving_iface}
use Rattle.nm_topology.specs.TopologyValue.{TopologyValue}
use Rattle.nm_book.specs.Book.{BookValue, knowledge, knowledge_of, known_at, message_channel, sent_over, state_of}
use Rattle.nm_book.specs.Accepting.{Learns, LearnsIf, message_taken}
use Rattle.nm_book.specs.Sisters.{AreSisters}
use Rattle.nm_book.specs.Merging.{MergesChannels}
use Rattle.nm_book.specs.Running.{Runs}
use Rattle.nm_book.specs.declared.fault.AcceptFault.{AcceptFault}
use Rattle.nm_book.specs.declared.fault.MergeRefusal.{MergeRefusal}
use Rattle.nm_book.specs.declared.fault.MergeRefusal.TheVariants.{Stranger as NotMine, Channel}
use Rattle.nm_base.specs.declared.fault.Fault.{Fault}
use Rattle.nm_base.specs.declared.fault.Fault.TheVariants.{Refused as Unmerged, Memory as NoRoom}
use Rattle.nm_book.specs.declared.message.ChannelMessage.{ChannelMessage}
use Rattle.nm_book.specs.declared.message.ChannelMessage.TheVariants.{Data, Null}
use Rattle.nm_book.specs.declared.running.Ran.{Ran}
use Rattle.nm_book.specs.declared.running.Ran.TheVariants.{All, Limit, Memory}
use Rattle.nm_book.proofs.Sisters.{over}
use Rattle.nm_laws.specs.ReplicaCalls.{AreInOrder, Call, Accepts, Merges, RunsFor, HandsOut, IsCalled, GoesOn, IsFit}

abbrev at : List (Know (List ℕ)) → ℕ → Know (List ℕ)
at ks c = slice_index_or ks c nothing_known

-- of each channel more is known, and it is in order
pub record Adds (ks js : List (Know (List ℕ))) : Type 0 where
  pub under : (c : ℕ) → IsUnder (at ks c) (at js c)
  pub order : AreInOrder js

-- a replica goes on
pub record Follows (b c : BookValue) : Type 0 where
  pub topology : c.topology ≡ b.topology
  pub partition : c.partition ≡ b.partition
  pub adds : Adds b.knows c.knows
  pub events : b.events ≤ c.events
  pub handed : b.handed ≤ c.handed

module _ (reflexive : (a : Know (List ℕ)) → IsUnder a a) where
  same_adds : (ks js : List (Know (List ℕ))) → AreInOrder ks → js ≡ ks → Adds ks js
  same_adds ks js order e = subst (Adds ks) (sym e) (record { under = λ c. reflexive (at ks c); order = order })

  set_under : (ks : List (Know (List ℕ))) (c : ℕ) (y : Know (List ℕ)) → IsUnder (at ks c) y → (d : ℕ) → IsUnder (at ks d) (at (slice_set ks c y) d)
  set_under [] c y h d = reflexive nothing_known
  set_under (k ∷ ks) zero y h zero = h
  set_under (k ∷ ks) zero y h (suc d) = reflexive (at ks d)
  set_under (k ∷ ks) (suc c) y h zero = reflexive k
  set_under (k ∷ ks) (suc c) y h (suc d) = set_under ks c y h d

set_order : (ks : List (Know (List ℕ))) (c : ℕ) (y : Know (List ℕ)) → AreInOrder ks → IsKnow y → AreInOrder (slice_set ks c y)
set_order [] c y h k d = h d
set_order (x ∷ ks) zero y h k zero = k
set_order (x ∷ ks) zero y h k (suc d) = h (suc d)
set_order (x ∷ ks) (suc c) y h k zero = h zero
set_order (x ∷ ks) (suc c) y h k (suc d) = set_order ks c y (λ e. h (suc e)) k d

-- past its end a list of channels says nothing of any
past_end : (ks : List (Know (List ℕ))) (c : ℕ) → length ks ≤ c → at ks c ≡ nothing_known
past_end [] c h = refl
past_end (k ∷ ks) zero h = absurd (omega (arith, h))
past_end (k ∷ ks) (suc c) h = past_end ks c (omega (arith, h))

module _ (reflexive : (a : Know (List ℕ)) → IsUnder a a)
    (data_adds : (a : Know (List ℕ)) (n : ℕ) (m : ℕ × List ℕ) → IsUnder a (model.accept_data same_octets a n m).after)
    (null_adds : (a : Know (List ℕ)) (n t : ℕ) → IsUnder a (model.accept_null a n t).after)
    (data_keeps : (a : Know (List ℕ)) (n : ℕ) (m : ℕ × List ℕ) → IsKnow a → IsKnow (model.accept_data same_octets a n m).after)
    (null_keeps : (a : Know (List ℕ)) (n t : ℕ) → IsKnow a → IsKnow (model.accept_null a n t).after)
    (joined : (a d : Know (List ℕ)) → IsKnow a → IsKnow d → join_fault same_octets a d ≡ None → IsUnder a (join a d))
    (join_keeps : (a d : Know (List ℕ)) → IsKnow a → IsKnow d → IsKnow (join a d)) where
  taken_under : (ks : List (Know (List ℕ))) (m : ChannelMessage) → IsUnder (at ks (message_channel m)) (message_taken ks m).after
  taken_under ks (Data d) = data_adds (at ks d.channel) d.number (d.time, d.packet)
  taken_under ks (Null n) = null_adds (at ks n.channel) n.count n.clock

  taken_order : (ks : List (Know (List ℕ))) (m : ChannelMessage) → AreInOrder ks → IsKnow (message_taken ks m).after
  taken_order ks (Data d) h = data_keeps (at ks d.channel) d.number (d.time, d.packet) (h d.channel)
  taken_order ks (Null n) h = null_keeps (at ks n.channel) n.count n.clock (h n.channel)

  learned : (ks js : List (Know (List ℕ))) (m : ChannelMessage) (r : Result Accepted AcceptFault) → AreInOrder ks → Learns ks js (message_channel m) (message_taken ks m) r → Adds ks js
  learned ks js m (Ok a) order l =
      subst (Adds ks) (sym l.1) (record {
        under = set_under reflexive ks (message_channel m) (message_taken ks m).after (taken_under ks m);
        order = set_order ks (message_channel m) (message_taken ks m).after order (taken_order ks m order);
      })
  learned ks js m (Err e) order l = same_adds reflexive ks js order l.3

  learned_if : (q : Bool) (ks js : List (Know (List ℕ))) (m : ChannelMessage) (r : Result Accepted AcceptFault) → AreInOrder ks → LearnsIf q ks js (message_channel m) (message_taken ks m) r → Adds ks js
  learned_if true ks js m r order l = learned ks js m r order l
  learned_if false ks js m r order l = same_adds reflexive ks js order l.1

  -- what a merge leaves of a channel
  joined_pair : (q : Bool) (a d after : Know (List ℕ)) → IsKnow a → IsKnow d → (q ≡ true → join_fault same_octets a d ≡ None) → after ≡ cond q (join a d) a → IsUnder a after × IsKnow after
  joined_pair true a d after ka kd none e = (subst (IsUnder a) (sym e) (joined a d ka kd (none refl)), subst IsKnow (sym e) (join_keeps a d ka kd))
  joined_pair false a d after ka kd none e = (subst (IsUnder a) (sym e) (reflexive a), subst IsKnow (sym e) ka)

  merged : (t : TopologyValue) (p : ℕ) (ours : Bool) (ks os js : List (Know (List ℕ))) (r : Result Unit (Fault MergeRefusal)) → AreInOrder ks → AreInOrder os → MergesChannels t p ks os ours js r → Adds ks js
  merged t p ours ks os js (Ok u) order fit h = record { under = λ c. (each c).0; order = λ c. (each c).1 }
    where
      each : (c : ℕ) → IsUnder (at ks c) (at js c) × IsKnow (at js c)
      each c = ⊎_elim
          (λ low. joined_pair (comes_in (net_of t) p (receiving_iface t c)) (at ks c) (at os c) (at js c) (order c) (fit c) (λ comes. h.1 c low comes) (h.2.each c low))
          (λ past.
          let none = past_end ks c past in
          let also = past_end js c (let n = h.2.count in omega (arith, n, past)) in
          let same : at js c ≡ at ks c = also ∙ sym none in
          (subst (IsUnder (at ks c)) (sym same) (reflexive (at ks c)), subst IsKnow (sym same) (order c)))
          (cases_lt c (length ks))
  merged t p ours ks os js (Err (Unmerged NotMine)) order fit h = same_adds reflexive ks js order h.1
  merged t p ours ks os js (Err (Unmerged (Channel c f))) order fit h = same_adds reflexive ks js order h.2
  merged t p ours ks os js (Err NoRoom) order fit h = same_adds reflexive ks js order h.2

  ran_on : (limit : ℕ) (b c : BookValue) (r : Ran) → Runs b c limit r → b.events ≤ c.events
  ran_on limit b c (All n) h = let e = h.run.0 in omega (arith, e)
  ran_on limit b c (Limit n) h = let e = h.run.0 in omega (arith, e)
  ran_on limit b c (Memory n) h = let e = h.run.0 in omega (arith, e)

  -- a book that was told, and is else the same
  told : (b c : BookValue) → Adds b.knows c.knows → c ≡ record b { knows = c.knows } → Follows b c
  told b c adds same = record {
    topology = ap (λ z. z.topology) same;
    partition = ap (λ z. z.partition) same;
    adds = adds;
    events = let e : c.events ≡ b.events = ap (λ z. z.events) same in omega (arith, e);
    handed = let e : c.handed ≡ b.handed = ap (λ z. z.handed) same in omega (arith, e);
  }

  -- one call
  follows : (x : Call) (b c : BookValue) → AreInOrder b.knows → IsFit x → IsCalled x b c → Follows b c
  follows (Accepts m r) b c order fit h =
      told b c (learned_if (comes_in (net_of b.topology) b.partition (receiving_iface b.topology (message_channel m))) b.knows c.knows m r order h.learns) h.same
  follows (Merges k r) b c order fit h = told b c (merged b.topology b.partition _ b.knows k.knows c.knows r order fit h.merges) h.same
  follows (RunsFor limit r) b c order fit h = record {
    topology = ap (λ z. z.topology) h.same;
    partition = ap (λ z. z.partition) h.same;
    adds = same_adds reflexive b.knows c.knows order (ap (λ z. z.knows) h.same);
    events = ran_on limit b c r h;
    handed = let e : c.handed ≡ b.handed = ap (λ z. z.handed) h.same in omega (arith, e);
  }
  follows (HandsOut n) b c order fit h = record {
    topology = ap (λ z. z.topology) h.1;
    partition = ap (λ z. z.partition) h.1;
    adds = same_adds reflexive b.knows c.knows order (ap (λ z. z.knows) h.1);
    events = let e : c.events ≡ b.events = ap (λ z. z.events) h.1 in omega (arith, e);
    handed = let e : c.handed ≡ n = ap (λ z. z.handed) h.1 in let low = h.0 in omega (arith, e, low);
  }

  module _ (transitive : (a d e : Know (List ℕ)) → IsUnder a d → IsUnder d e → IsUnder a e) where
    then_on : (b c d : BookValue) → Follows b c → Follows c d → Follows b d
    then_on b c d f g = record {
      topology = g.topology ∙ f.topology;
      partition = g.partition ∙ f.partition;
      adds = record { under = λ i. transitive (at b.knows i) (at c.knows i) (at d.knows i) (f.adds.under i) (g.adds.under i); order = g.adds.order };
      events = let x = f.events in let y = g.events in omega (arith, x, y);
      handed = let x = f.handed in let y = g.handed in omega (arith, x, y);
    }

    pub all_follow : (b last : BookValue) (calls : List (Call × BookValue)) → AreInOrder b.knows → GoesOn b calls last → Follows b last
    all_follow b last [] order h =
        subst (Follows b) (sym h) (record { topology = refl; partition = refl; adds = same_adds reflexive b.knows b.knows order refl; events = omega arith; handed = omega arith })
    all_follow b last (x ∷ calls) order h =
        let one = follows x.0 b x.1 order h.0 h.1 in
        then_on b x.1 last one (all_follow x.1 last calls one.adds.order h.2)

-- what a follower knows is more, at each interface
under_here : (ks js : List (Know (List ℕ))) → IsUnder {P = List ℕ} nothing_known nothing_known → ((c : ℕ) → IsUnder (at ks c) (at js c)) → (o : Option ℕ) → IsUnder (known_at ks o) (known_at js o)
under_here ks js none h None = none
under_here ks js none h (Some c) = h c

sisters : (b c : BookValue) → Follows b c → AreSisters b c
sisters b c f = record { topology = sym f.topology; partition = sym f.partition }

module _ (b c : BookValue) (f : Follows b c) (none : IsUnder {P = List ℕ} nothing_known nothing_known)
    (within : IsWithin (net_of b.topology) b.partition (knowledge b) b.events) where
  pub under_all : IsUnderAll (net_of b.topology) b.partition (knowledge b) (knowledge_of b.topology c.knows)
  under_all i comes = under_here b.knows c.knows none f.adds.under (channel_from 0 b.topology.receivers i)

  pub records_stay : ((k m : ℕ) → k ≤ m → IsWithin (net_of b.topology) b.partition (knowledge b) k
      → IsPrefix (from_scratch (net_of b.topology) b.partition (knowledge b) k).records (from_scratch (net_of b.topology) b.partition (knowledge_of b.topology c.knows) m).records)
      → IsPrefix (state_of b).records (state_of c).records
  records_stay law =
      over b c (λ t p. IsPrefix (state_of b).records (from_scratch (net_of t) p (knowledge_of t c.knows) c.events).records) (sisters b c f)
      (law b.events c.events f.events within)

  pub sent_stays : (d : ℕ) → ((k m : ℕ) → k ≤ m → IsWithin (net_of b.topology) b.partition (knowledge b) k
      → IsPrefix ((from_scratch (net_of b.topology) b.partition (knowledge b) k).sent (receiving_iface b.topology d))
      ((from_scratch (net_of b.topology) b.partition (knowledge_of b.topology c.knows) m).sent (receiving_iface b.topology d)))
      → IsPrefix (sent_over b d) (sent_over c d)
  sent_stays d law =
      over b c (λ t p. IsPrefix (sent_over b d) ((from_scratch (net_of t) p (knowledge_of t c.knows) c.events).sent (receiving_iface t d))) (sisters b c f)
      (law b.events c.events f.events within)
