-- What a merge with another replica's knowledge does.
use Rattle.std.specs.Prelude.{◌≡◌, ◌≢◌, ℕ, ◌<◌, ◌≤◌, ◌==◌, ◌&&◌, Bool, true, false, if◌then◌else◌, List, length, max, slice_get, slice_index_or, slice_set, take, Option, Some, None, Result, Ok, Err}
use Rattle.nm_base.specs.declared.fault.Fault.{Fault}
use Rattle.nm_base.specs.declared.fault.Fault.TheVariants.{Refused, Memory}
use Rattle.nm_topology.specs.Topology.{receiving_iface}
use Rattle.nm_topology.specs.TopologyValue.{TopologyValue}
use Rattle.nm_model.specs.Join.{join, join_fault}
use Rattle.nm_model.specs.Knowledge.{Know, nothing_known}
use Rattle.nm_model.specs.Lists.{nth}
use Rattle.nm_model.specs.Partition.{comes_in}
use Rattle.nm_knowledge.specs.Answers.{reason}
use Rattle.nm_knowledge.specs.Gain.{Gain, IsGain, gained}
use Rattle.nm_knowledge.specs.Octets.{same_octets}
use Rattle.nm_knowledge.specs.declared.answer.KnowFault.{KnowFault}
use Rattle.nm_sim.specs.Network.{net_of}
use Rattle.nm_book.specs.Book.{BookValue}
use Rattle.nm_book.specs.Telling.{Follow, told_each}
use Rattle.nm_book.specs.declared.message.Data.{Data}
use Rattle.nm_book.specs.declared.fault.MergeRefusal.{MergeRefusal}
use Rattle.nm_book.specs.declared.fault.MergeRefusal.TheVariants.{Stranger, Channel}

-- the topology's digest, the partition, and what is known of each channel by the channel's number:
-- nothing of those that do not come in
pub record KnowledgeValue : Type 0 where
  pub digest : List ℕ
  pub partition : ℕ
  pub knows : List (Know (List ℕ))

-- what is known of a channel, of which this is kept
abbrev pub kept_of : Option (Know (List ℕ)) → Know (List ℕ)
kept_of None = nothing_known
kept_of (Some k) = k

-- whether it is that of a replica of this partition: of a topology with this digest and as many
-- channels
abbrev pub is_of : TopologyValue → ℕ → KnowledgeValue → Bool
is_of t p other = same_octets other.digest t.digest && (other.partition == p)
    && (length other.knows == length t.receivers)

module _ (t : TopologyValue) (p : ℕ) (knows others : List (Know (List ℕ))) where
  -- what both know of channel c
  abbrev pub known : ℕ → Know (List ℕ)
  known c = slice_index_or knows c nothing_known

  abbrev pub other : ℕ → Know (List ℕ)
  other c = slice_index_or others c nothing_known

  abbrev pub is_incoming : ℕ → Bool
  is_incoming c = comes_in (net_of t) p (receiving_iface t c)

  -- below number n all channels that come in can be joined
  abbrev pub AreJoinable : ℕ → Type 0
  AreJoinable n =
      (c : ℕ) → c < n → is_incoming c ≡ true → join_fault same_octets (known c) (other c) ≡ None

  -- what is known of channel c after a merge: the join, if it comes in
  abbrev pub joined_at : ℕ → Know (List ℕ)
  joined_at c = if is_incoming c then join (known c) (other c) else known c

  -- this is known after it, of each channel
  pub record AreJoined (after : List (Know (List ℕ))) : Type 0 where
    pub count : length after ≡ length knows
    pub each : (c : ℕ) → c < length knows → slice_index_or after c nothing_known ≡ joined_at c

  -- the first channel that can't be joined, and why
  pub record IsFirstMergeFault (c : ℕ) (fault : KnowFault) : Type 0 where
    pub there : c < length knows
    pub incoming : is_incoming c ≡ true
    pub shown : join_fault same_octets (known c) (other c) ≡ reason fault
    pub refused : join_fault same_octets (known c) (other c) ≢ None
    pub before : AreJoinable c

  -- The answer of a merge. A refusal changes nothing: the knowledge of another partition or
  -- topology; else the first channel by number that can't be joined; else memory.
  abbrev pub MergesChannels : Bool → List (Know (List ℕ)) → Result Unit (Fault MergeRefusal)
      → Type 0
  MergesChannels is_ours after (Ok u) =
      (is_ours ≡ true) × AreJoinable (length knows) × AreJoined after
  MergesChannels is_ours after (Err (Refused Stranger)) = (is_ours ≡ false) × (after ≡ knows)
  MergesChannels is_ours after (Err (Refused (Channel c fault))) =
      (is_ours ≡ true) × IsFirstMergeFault c fault × (after ≡ knows)
  MergesChannels is_ours after (Err Memory) =
      (is_ours ≡ true) × AreJoinable (length knows) × (after ≡ knows)

-- the answer of a merge with what another replica of the same partition knows
abbrev pub MergesOwnChannels : TopologyValue → ℕ → (knows others after : List (Know (List ℕ)))
    → Result Unit (Fault MergeRefusal) → Type 0
MergesOwnChannels t p knows others after result = MergesChannels t p knows others true after result

-- what a channel gains, if it comes in: with it the join is known
abbrev pub IsGainOf : Bool → Know (List ℕ) → Know (List ℕ) → Option Gain → Type 0
IsGainOf incoming a b None = incoming ≡ false
IsGainOf incoming a b (Some g) = (incoming ≡ true) × IsGain a g × (gained a g ≡ join a b)

abbrev pub with_gain : Know (List ℕ) → Option Gain → Know (List ℕ)
with_gain a None = a
with_gain a (Some g) = gained a g

-- How a merge goes.
module _ (t : TopologyValue) (p : ℕ) (knows others : List (Know (List ℕ))) where
  -- all channels that come in can be joined, or this is the first that can't
  abbrev pub Checks : Result Unit MergeRefusal → Type 0
  Checks (Ok u) = AreJoinable t p knows others (length knows)
  Checks (Err e) = (c : ℕ) × (fault : KnowFault) × (e ≡ Channel c fault)
      × IsFirstMergeFault t p knows others c fault

  pub record AreGains (gains : List (Option Gain)) : Type 0 where
    pub count : length gains ≡ length knows
    pub each : (c : ℕ) (g : Option Gain) → slice_get gains c ≡ Some g
        → IsGainOf (is_incoming t p knows others c) (known t p knows others c)
        (other t p knows others c) g

  -- of the incoming channels below number n all messages of both are known, and the clocks are not
  -- past those of the joins; nothing else changed
  pub record AreTold (n : ℕ) (after : List (Know (List ℕ))) : Type 0 where
    pub count : length after ≡ length knows
    pub list : (c : ℕ) → c < n → is_incoming t p knows others c ≡ true
        → (slice_index_or after c nothing_known).list
        ≡ (join (known t p knows others c) (other t p knows others c)).list
    pub clock : (c : ℕ) → c < n → is_incoming t p knows others c ≡ true
        → (slice_index_or after c nothing_known).clock
        ≤ (join (known t p knows others c) (other t p knows others c)).clock
    pub under : (c : ℕ) → c < n → is_incoming t p knows others c ≡ true
        → (known t p knows others c).clock ≤ (slice_index_or after c nothing_known).clock
    pub outside : (c : ℕ) → is_incoming t p knows others c ≡ false
        → slice_index_or after c nothing_known ≡ known t p knows others c
    pub above : (c : ℕ) → n ≤ c → slice_index_or after c nothing_known ≡ known t p knows others c

-- a channel, and what two replicas know of it
pub record BothKnow : Type 0 where
  pub channel : ℕ
  pub ours : Know (List ℕ)
  pub theirs : Know (List ℕ)

abbrev pub both_know : ℕ → (ours theirs : Know (List ℕ)) → BothKnow
both_know c a b = record { channel = c; ours = a; theirs = b }

-- it is the turn of a channel: both know this of it, and the messages of those below it were taken
-- in
pub record IsTurnOf (t : TopologyValue) (p : ℕ) (knows others : List (Know (List ℕ)))
    (both : BothKnow) (messages : List Data) : Type 0 where
  pub there : both.channel < length knows
  pub ours : slice_index_or knows both.channel nothing_known ≡ both.ours
  pub theirs : slice_index_or others both.channel nothing_known ≡ both.theirs
  pub follow : Follow t p knows messages
  pub below : AreTold t p knows others both.channel (told_each knows messages)

-- of a channel the first n messages that the other knows were taken in, if these were known before
pub record IsGrown (t : TopologyValue) (p : ℕ) (knows before : List (Know (List ℕ)))
    (both : BothKnow) (n : ℕ) (messages : List Data) : Type 0 where
  pub follow : Follow t p knows messages
  pub now_known : Know (List ℕ)
  pub set : told_each knows messages ≡ slice_set before both.channel now_known
  pub list : now_known.list ≡ take n both.theirs.list
  pub over : both.ours.clock ≤ now_known.clock
  pub under : now_known.clock ≤ max both.ours.clock both.theirs.clock
  pub later : (m : ℕ) (x : ℕ × List ℕ) → n ≤ m → nth both.theirs.list m ≡ Some x
      → now_known.clock ≤ x.0

-- all that it knows was taken in, if the first of these messages were before
abbrev pub HasAllGrown : TopologyValue → ℕ → List (Know (List ℕ)) → BothKnow
    → (first messages : List Data) → Type 0
HasAllGrown t p knows both first messages =
    IsGrown t p knows (told_each knows first) both (length both.theirs.list) messages

-- a book merges another's knowledge: nothing but what it knows changes
pub record BookMerges (old new : BookValue) (other : KnowledgeValue)
    (result : Result Unit (Fault MergeRefusal)) : Type 0 where
  pub merges : MergesChannels old.topology old.partition old.knows other.knows
      (is_of old.topology old.partition other) new.knows result
  pub same : new ≡ record old { knows = new.knows }
