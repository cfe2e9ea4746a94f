-- Replicas that run, send, receive, merge and restart, over every schedule. Each step is atomic.
use Rattle.std.specs.Prelude.{◌≡◌, ◌⊎◌, ℕ, zero, suc, ◌-◌, Bool, if◌then◌else◌, ◌&&◌, ltb, leb, length, drop, List, [], ◌∷◌, ◌++◌, Option, Some, None}
use Rattle.nm_model.specs.Lists.{nth, set_at}
use Rattle.nm_model.specs.Network.{Net}
use Rattle.nm_model.specs.Run.{State, pends_before}
use Rattle.nm_model.specs.Knowledge.{Knowledge, no_knowledge}
use Rattle.nm_model.specs.Accept.{Answer, New, Raised, Known, Gap, Accepted, accept_data, accept_null}
use Rattle.nm_model.specs.Join.{join_all, join_faults}
use Rattle.nm_model.specs.Partition.{goes_out, receiver_of}
use Rattle.nm_model.specs.Replica.{from_scratch, safe_time}
use Rattle.nm_model.specs.Promise.{Promising, promise}

pub data Frame (P : Type 0) : Type 0 where
  -- message number n of a channel, with its time: channel, n, message
  DataFrame : ℕ → ℕ → ℕ × P → Frame P
  -- a null message: channel, the number of messages sent so far, and the promise
  NullFrame : ℕ → ℕ → ℕ → Frame P

-- what a replica knows of each channel, and how many events it did
pub record Replica (P : Type 0) : Type 0 where
  pub knowledge : Knowledge P
  pub ran : ℕ

abbrev pub fresh : {P : Type 0} → Replica P
fresh = record { knowledge = no_knowledge; ran = 0 }

-- the replicas, by partition and number, and every frame that was ever sent
pub record World (P : Type 0) : Type 0 where
  pub replica : ℕ → ℕ → Replica P
  pub bag : List (Frame P)

-- Steps of replica r, 0 or 1, of partition p. Frames of the bag may be delivered late, out of
-- order, again or never.
pub data Step : Type 0 where
  -- p, r: at most so many events before the safe time
  Run : ℕ → ℕ → ℕ → Step
  -- p, r, c, n: puts message n of the outgoing channel c into the bag
  Data : ℕ → ℕ → ℕ → ℕ → Step
  -- p, r, c, n: puts messages n and on, as after a broken connection
  Resend : ℕ → ℕ → ℕ → ℕ → Step
  -- p, r, c: puts a null message with this promise
  Null : Promising → ℕ → ℕ → ℕ → Step
  -- i, r: delivers frame i of the bag to replica r of its receiver
  Deliver : ℕ → ℕ → Step
  -- p, r: joins what the sister, the other replica of the partition, knows
  Merge : ℕ → ℕ → Step
  -- p, r: begins again, empty
  Restart : ℕ → ℕ → Step

-- what a step answers
pub data Outcome : Type 0 where
  -- so many events were done; nothing before the safe time is left
  All : ℕ → Outcome
  -- so many events were done; more are left
  Limit : ℕ → Outcome
  -- so many frames were put
  Frames : ℕ → Outcome
  -- of a delivery
  Answered : Answer → Outcome
  Merged : Outcome
  -- the first channel that can't be joined, and why; nothing changed
  MergeRefused : ℕ → Answer → Outcome
  Emptied : Outcome
  -- the step names a partition, replica, channel, frame or message that isn't there; nothing
  -- changed
  NoSuch : Outcome

abbrev pub opening : {P : Type 0} → World P
opening = record { replica = λ p r. fresh; bag = [] }

abbrev pub put_replica : {P : Type 0} → World P → ℕ → ℕ → Replica P → World P
put_replica w p r x = record {
  replica = set_at w.replica p (set_at (w.replica p) r x);
  bag = w.bag;
}

abbrev pub put_frames : {P : Type 0} → World P → List (Frame P) → World P
put_frames w l = record { replica = w.replica; bag = w.bag ++ l }

abbrev pub sister : ℕ → ℕ
sister zero = 1
sister (suc r) = 0

-- messages from number n on
abbrev pub data_frames : {P : Type 0} → ℕ → ℕ → List (ℕ × P) → List (Frame P)
data_frames c n [] = []
data_frames c n (b ∷ l) = DataFrame c n b ∷ data_frames c (suc n) l

abbrev pub sends : {P : Type 0} → World P → ℕ → ℕ → Option (ℕ × P) → World P × Outcome
sends w c n None = (w, NoSuch)
sends w c n (Some b) = (put_frames w (DataFrame c n b ∷ []), Frames 1)

-- a replica after it received something of one channel
abbrev pub told : {P : Type 0} → World P → ℕ → ℕ → ℕ → Accepted P → World P × Outcome
told w p r c a = (
  put_replica w p r (record {
    knowledge = set_at (w.replica p r).knowledge c a.after;
    ran = (w.replica p r).ran;
  }),
  Answered a.answer,
)

abbrev pub merges : {P : Type 0} → World P → ℕ → ℕ → Knowledge P → Option (ℕ × Answer)
    → World P × Outcome
merges w p r J None = (
  put_replica w p r (record {
    knowledge = join_all (w.replica p r).knowledge J;
    ran = (w.replica p r).ran;
  }),
  Merged,
)
merges w p r J (Some f) = (w, MergeRefused f.0 f.1)

module _ {P N : Type 0} (net : Net P N) where
  -- the number of events after at most n further ones before the safe time
  abbrev pub advance : ℕ → Knowledge P → ℕ → ℕ → ℕ
  advance p K zero k = k
  advance p K (suc n) k =
      if pends_before (safe_time net p K) (from_scratch net p K k) then advance p K n (suc k) else k

  abbrev pub is_replica : ℕ → ℕ → Bool
  is_replica p r = ltb p net.parts && ltb r 2

  abbrev pub state_of : ℕ → Replica P → State P N
  state_of p x = from_scratch net p x.knowledge x.ran

  -- what a replica has put on a channel
  abbrev pub outgoing : ℕ → Replica P → ℕ → List (ℕ × P)
  outgoing p x c = (state_of p x).sent c

  abbrev pub runs : World P → ℕ → ℕ → Replica P → ℕ → World P × Outcome
  runs w p r x k = (
    put_replica w p r (record { knowledge = x.knowledge; ran = k }),
    (if pends_before (safe_time net p x.knowledge) (from_scratch net p x.knowledge k)
        then Limit (k - x.ran)
        else All (k - x.ran)),
  )

  module _ (same : P → P → Bool) where
    abbrev pub delivers : World P → ℕ → Option (Frame P) → World P × Outcome
    delivers w r None = (w, NoSuch)
    delivers w r (Some (DataFrame c n b)) =
        let p = receiver_of net c in
        if is_replica p r
        then told w p r c (accept_data same ((w.replica p r).knowledge c) n b)
        else (w, NoSuch)
    delivers w r (Some (NullFrame c count t)) =
        let p = receiver_of net c in
        if is_replica p r
        then told w p r c (accept_null ((w.replica p r).knowledge c) count t)
        else (w, NoSuch)

    abbrev pub happens : World P → Step → World P × Outcome
    happens w (Run p r n) =
        let x = w.replica p r in
        if is_replica p r then runs w p r x (advance p x.knowledge n x.ran) else (w, NoSuch)
    happens w (Data p r c n) =
        if is_replica p r && goes_out net p c
        then sends w c n (nth (outgoing p (w.replica p r) c) n)
        else (w, NoSuch)
    happens w (Resend p r c n) =
        let l = outgoing p (w.replica p r) c in
        if is_replica p r && goes_out net p c && leb n (length l)
        then (put_frames w (data_frames c n (drop n l)), Frames (length l - n))
        else (w, NoSuch)
    happens w (Null kind p r c) =
        let x = w.replica p r in
        if is_replica p r && goes_out net p c then (
          put_frames w
              (NullFrame c (length (outgoing p x c))
              (promise net kind p x.knowledge x.ran c) ∷ []),
          Frames 1,
        ) else (w, NoSuch)
    happens w (Deliver i r) = delivers w r (nth w.bag i)
    happens w (Merge p r) =
        let J = (w.replica p (sister r)).knowledge in
        if is_replica p r
        then merges w p r J (join_faults same (w.replica p r).knowledge J net.ifaces)
        else (w, NoSuch)
    happens w (Restart p r) =
        if is_replica p r then (put_replica w p r fresh, Emptied) else (w, NoSuch)

    -- the world after a list of steps, and the answers
    abbrev pub world : List Step → World P → World P
    world [] w = w
    world (e ∷ es) w = world es (happens w e).0

    abbrev pub answers : List Step → World P → List Outcome
    answers [] w = []
    answers (e ∷ es) w = (happens w e).1 ∷ answers es (happens w e).0

    -- replica r of partition p, after the steps
    abbrev pub replica_after : List Step → ℕ → ℕ → Replica P
    replica_after steps p r = (world steps opening).replica p r

-- of all refusals only a gap
abbrev pub IsFine : Answer → Type 0
IsFine a = (a ≡ New) ⊎ (a ≡ Raised) ⊎ (a ≡ Known) ⊎ ((n : ℕ) × (a ≡ Gap n))

abbrev pub IsFineOutcome : Outcome → Type 0
IsFineOutcome (All n) = Unit {0}
IsFineOutcome (Limit n) = Unit {0}
IsFineOutcome (Frames n) = Unit {0}
IsFineOutcome (Answered a) = IsFine a
IsFineOutcome Merged = Unit {0}
IsFineOutcome (MergeRefused c a) = ⊥
IsFineOutcome Emptied = Unit {0}
IsFineOutcome NoSuch = Unit {0}

abbrev pub AllFine : List Outcome → Type 0
AllFine [] = Unit {0}
AllFine (x ∷ xs) = IsFineOutcome x × AllFine xs
