-- What single steps of the world do, what they answer, and when they name nothing.
use Rattle.std.specs.Prelude.{◌≡◌, ◌≢◌, ◌⊎◌, ℕ, ◌+◌, ◌-◌, ◌<◌, ◌≤◌, Bool, true, false, length, List, [], ◌∷◌, ◌++◌, Some, None}
use Rattle.nm_model.specs.Lists.{nth, set_at}
use Rattle.nm_model.specs.Network.{Net}
use Rattle.nm_model.specs.Accept.{Accepted, Answer, accept_data, accept_null}
use Rattle.nm_model.specs.Join.{join, join_faults}
use Rattle.nm_model.specs.Partition.{comes_in, goes_out, sender_of, receiver_of}
use Rattle.nm_model.specs.Promise.{Promising, promise}
use Rattle.nm_model.specs.World.{World, Replica, Step, Frame, DataFrame, NullFrame, Run, Data, Resend}
use Rattle.nm_model.specs.World.{Null, Deliver, Merge, Restart, All, Limit, Frames, Merged}
use Rattle.nm_model.specs.World.{MergeRefused, Emptied, NoSuch}
use Rattle.nm_model.specs.World.{Outcome, Answered, put_replica, is_replica, outgoing, happens}

-- channel c goes out of the partition of its sender, comes into that of its receiver, and these are
-- two
pub record HasTwoEnds {P N : Type 0} (net : Net P N) (p c : ℕ) : Type 0 where
  pub out : goes_out net p c ≡ true → (p ≡ sender_of net c) × (p ≢ receiver_of net c)
  pub goes : p ≡ sender_of net c → p ≢ receiver_of net c → goes_out net p c ≡ true
  pub into : comes_in net p c ≡ true → (p ≡ receiver_of net c) × (p ≢ sender_of net c)
  pub comes : p ≡ receiver_of net c → p ≢ sender_of net c → comes_in net p c ≡ true

-- replica r of partition p becomes this one: the others and the frames stay
pub record OneChanges {P : Type 0} (w : World P) (p r : ℕ) (x : Replica P) : Type 0 where
  pub here : (put_replica w p r x).replica p r ≡ x
  pub others : (q s : ℕ) → (q ≢ p) ⊎ (s ≢ r)
      → (put_replica w p r x).replica q s ≡ w.replica q s
  pub bag : (put_replica w p r x).bag ≡ w.bag

module _ {P N : Type 0} (net : Net P N) (same : P → P → Bool) (w : World P) where
  -- the step changes replica r of partition p alone, which has done k events then
  abbrev pub HasDone : Step → ℕ → ℕ → ℕ → Outcome → Type 0
  HasDone step p r k outcome = let x = w.replica p r in
      happens net same w step
      ≡ (put_replica w p r (record { knowledge = x.knowledge; ran = k }), outcome)

  -- a replica, by its partition and number, does at most n further events; count of all its events
  -- are safe: it does n, and more are left, or it does all that are safe
  pub record DoesWhatIsSafe (name : ℕ × ℕ) (n count : ℕ) : Type 0 where
    pub limit : let k = (w.replica name.0 name.1).ran + n in k < count
        → HasDone (Run name.0 name.1 n) name.0 name.1 k (Limit n)
    pub all : let k = (w.replica name.0 name.1).ran in count ≤ k + n
        → HasDone (Run name.0 name.1 n) name.0 name.1 count (All (count - k))

  -- the step puts these frames behind those that were sent before, and nothing else changes
  abbrev pub Puts : Step → List (Frame P) → ℕ → Type 0
  Puts step frames count = happens net same w step
      ≡ (record { replica = w.replica; bag = w.bag ++ frames }, Frames count)

  -- replica r of partition p sends on channel c
  pub record PutsFrames (p r c : ℕ) : Type 0 where
    -- message n
    pub message : (n : ℕ) (b : ℕ × P) → nth (outgoing net p (w.replica p r) c) n ≡ Some b
        → Puts (Data p r c n) (DataFrame c n b ∷ []) 1
    -- all messages from number n on
    pub again : (n : ℕ) → n ≤ length (outgoing net p (w.replica p r) c)
        → let l = outgoing net p (w.replica p r) c in (fs : List (Frame P))
        × Puts (Resend p r c n) fs (length l - n) × (length fs ≡ length l - n)
        × ((i : ℕ) (b : ℕ × P) → nth l (n + i) ≡ Some b → nth fs i ≡ Some (DataFrame c (n + i) b))
    -- a null message: how many messages there are, and what is promised
    pub null : (kind : Promising) → let x = w.replica p r in
        Puts (Null kind p r c)
        (NullFrame c (length (outgoing net p x c)) (promise net kind p x.knowledge x.ran c) ∷ []) 1

  -- replica r of partition p knows this of channel c, and nothing else changes; the answer is that
  -- of taking it
  abbrev pub HasLearned : Step → ℕ → ℕ → ℕ → Accepted P → Type 0
  HasLearned step p r c taken = let x = w.replica p r in
      happens net same w step
      ≡ (
        put_replica w p r
            (record { knowledge = set_at x.knowledge c taken.after; ran = x.ran }),
        Answered taken.answer,
      )

  -- frame i, of channel c, is delivered to replica r of the receiver
  pub record Delivers (i r c : ℕ) : Type 0 where
    pub message : (n : ℕ) (b : ℕ × P) → nth w.bag i ≡ Some (DataFrame c n b)
        → let p = receiver_of net c in
        HasLearned (Deliver i r) p r c (accept_data same ((w.replica p r).knowledge c) n b)
    pub null : (n t : ℕ) → nth w.bag i ≡ Some (NullFrame c n t)
        → let p = receiver_of net c in
        HasLearned (Deliver i r) p r c (accept_null ((w.replica p r).knowledge c) n t)

  -- replica r of partition p joins what replica s knows, channel by channel, or names the first
  -- channel that can't be joined
  pub record JoinsSisters (p r s : ℕ) : Type 0 where
    pub merged : let x = w.replica p r in let J = (w.replica p s).knowledge in
        join_faults same x.knowledge J net.ifaces ≡ None
        → happens net same w (Merge p r)
        ≡ (
          put_replica w p r
              (record { knowledge = λ c. join (x.knowledge c) (J c); ran = x.ran }),
          Merged,
        )
    pub refused : (c : ℕ) (f : Answer)
        → join_faults same (w.replica p r).knowledge (w.replica p s).knowledge net.ifaces
        ≡ Some (c, f)
        → happens net same w (Merge p r) ≡ (w, MergeRefused c f)

  -- a restart leaves a replica that knows nothing and has done nothing, and changes nothing else
  abbrev pub BeginsAnew : ℕ → ℕ → Type 0
  BeginsAnew p r = happens net same w (Restart p r)
      ≡ (
        put_replica w p r
            (record { knowledge = λ c. record { list = []; clock = 0 }; ran = 0 }),
        Emptied,
      )

  -- the step changes nothing, and says so
  abbrev pub DoesNothing : Step → Type 0
  DoesNothing step = happens net same w step ≡ (w, NoSuch)

  -- a partition, replica, channel, message or frame isn't there
  pub record MayNameNothing : Type 0 where
    pub replica : (p r c n : ℕ) (kind : Promising) → is_replica net p r ≡ false
        → DoesNothing (Run p r n) × DoesNothing (Data p r c n) × DoesNothing (Resend p r c n)
        × DoesNothing (Null kind p r c) × DoesNothing (Merge p r) × DoesNothing (Restart p r)
    pub channel : (p r c n : ℕ) (kind : Promising) → goes_out net p c ≡ false
        → DoesNothing (Data p r c n) × DoesNothing (Resend p r c n) × DoesNothing (Null kind p r c)
    pub message : (p r c n : ℕ) → length (outgoing net p (w.replica p r) c) ≤ n
        → DoesNothing (Data p r c n)
    pub messages : (p r c n : ℕ) → length (outgoing net p (w.replica p r) c) < n
        → DoesNothing (Resend p r c n)
    pub frame : (i r : ℕ) → length w.bag ≤ i → DoesNothing (Deliver i r)
    pub receiver : (i r c n t : ℕ) (b : ℕ × P)
        → (nth w.bag i ≡ Some (DataFrame c n b)) ⊎ (nth w.bag i ≡ Some (NullFrame c n t))
        → is_replica net (receiver_of net c) r ≡ false → DoesNothing (Deliver i r)
