-- The program's replicas, frames and steps in the words of the model's world.
use Rattle.std.specs.Prelude.{◌≡◌, ℕ, ◌+◌, ◌*◌, ◌<◌, List, [], ◌∷◌, ◌++◌, drop, length, map, slice_get, slice_index_or, Option, Some, None, Result, Ok, Err, false}
use Rattle.std.specs.Option.{option_map}
use Rattle.nm_topology.specs.Topology.{receiving_iface}
use Rattle.nm_topology.specs.TopologyValue.{TopologyValue}
use Rattle.nm_knowledge.specs.Answers.{answer, reason}
use Rattle.nm_knowledge.specs.Octets.{same_octets}
use Rattle.nm_knowledge.specs.declared.answer.KnowFault.{KnowFault}
use Rattle.nm_knowledge.specs.declared.answer.KnowFault.TheVariants.{Memory as NoMemory}
use Rattle.nm_model.specs.Knowledge.{nothing_known}
use Rattle.nm_model.specs.Lists.{nth}
use Rattle.nm_model.specs.Promise.{Plain, Tight}
use Rattle.nm_model.specs.World as model
use Rattle.nm_sim.specs.Network.{net_of}
use Rattle.nm_book.specs.Book.{BookValue, is_incoming, message_channel, replica_of, sent_over}
use Rattle.nm_base.specs.declared.fault.Fault.{Fault}
use Rattle.nm_base.specs.declared.fault.Fault.TheVariants as unmerged
use Rattle.nm_book.specs.declared.fault.MergeRefusal.{MergeRefusal}
use Rattle.nm_book.specs.declared.fault.MergeRefusal.TheVariants.{Stranger, Channel}
use Rattle.nm_book.specs.declared.message.ChannelMessage.{ChannelMessage}
use Rattle.nm_book.specs.declared.message.Data.{Data as DataValue}
use Rattle.nm_book.specs.declared.message.ChannelMessage.TheVariants.{Data as DataMessage, Null as NullMessage}
use Rattle.nm_rounds.specs.declared.step.StepAnswer.{StepAnswer}
use Rattle.nm_rounds.specs.declared.step.StepAnswer.TheVariants.{All, Limit, Frames, Accepted, Refused, Merged, MergeRefused, Emptied}
use Rattle.nm_rounds.specs.declared.step.WorldStep.{WorldStep}
use Rattle.nm_rounds.specs.declared.step.WorldStep.TheVariants.{Run, Data, Resend, Null, OldNull, Deliver, Merge, Restart}
use Rattle.nm_rounds.specs.declared.world.Stop.{Stop}
use Rattle.nm_rounds.specs.declared.world.Stop.TheVariants.{NoSuch, Memory}

-- the model names a channel by its receiving interface
abbrev pub step_of : TopologyValue → WorldStep → model.Step
step_of t (Run p r limit) = model.Run p r limit
step_of t (Data p r c n) = model.Data p r (receiving_iface t c) n
step_of t (Resend p r c n) = model.Resend p r (receiving_iface t c) n
step_of t (Null p r c) = model.Null Tight p r (receiving_iface t c)
step_of t (OldNull p r c) = model.Null Plain p r (receiving_iface t c)
step_of t (Deliver i r) = model.Deliver i r
step_of t (Merge p r) = model.Merge p r
step_of t (Restart p r) = model.Restart p r

-- no definition speaks of memory
abbrev pub outcome_of : TopologyValue → StepAnswer → Option model.Outcome
outcome_of t (All n) = Some (model.All n)
outcome_of t (Limit n) = Some (model.Limit n)
outcome_of t (Frames n) = Some (model.Frames n)
outcome_of t (Accepted a) = option_map model.Answered (answer (Ok a))
outcome_of t (Refused f) = option_map model.Answered (reason f)
outcome_of t Merged = Some model.Merged
outcome_of t (MergeRefused c f) = option_map (model.MergeRefused (receiving_iface t c)) (reason f)
outcome_of t Emptied = Some model.Emptied

abbrev pub frame_of : TopologyValue → ChannelMessage → model.Frame (List ℕ)
frame_of t (DataMessage d) =
    model.DataFrame (receiving_iface t d.channel) d.number (d.time, d.packet)
frame_of t (NullMessage n) = model.NullFrame (receiving_iface t n.channel) n.count n.clock

-- what a step answers if a replica refused a frame
abbrev pub refusal_of : KnowFault → Result StepAnswer Stop
refusal_of NoMemory = Err Memory
refusal_of f = Ok (Refused f)

-- and what a merge answers
abbrev pub merge_answer_of : Result Unit (Fault MergeRefusal) → Result StepAnswer Stop
merge_answer_of (Ok u) = Ok Merged
merge_answer_of (Err (unmerged.Refused Stranger)) = Err NoSuch
merge_answer_of (Err (unmerged.Refused (Channel c f))) = Ok (MergeRefused c f)
merge_answer_of (Err unmerged.Memory) = Err Memory

-- the book is the model's replica r of partition p: it handed no record out, and of channels that
-- do not come in it knows nothing
pub record IsReplicaOf (t : TopologyValue) (p r : ℕ) (b : BookValue)
    (x : model.Replica (List ℕ)) : Type 0 where
  pub topology : b.topology ≡ t
  pub partition : b.partition ≡ p
  pub number : b.replica ≡ r
  pub replica : replica_of b ≡ x
  pub handed : b.handed ≡ 0
  pub count : length b.knows ≡ length t.receivers
  pub quiet : (c : ℕ) → is_incoming b c ≡ false
      → slice_index_or b.knows c nothing_known ≡ nothing_known

-- the books are the world's: replica r of partition p is the book of number 2p + r
pub record AreReplicas (t : TopologyValue) (books : List BookValue)
    (w : model.World (List ℕ)) : Type 0 where
  pub count : length books ≡ 2 * t.partitions
  pub each : (p r : ℕ) (b : BookValue) → r < 2 → slice_get books (2 * p + r) ≡ Some b
      → IsReplicaOf t p r b (w.replica p r)

-- the first n of the replicas, by partition and number, which know nothing
pub record AreFirst (t : TopologyValue) (n : ℕ) (books : List BookValue) : Type 0 where
  pub count : length books ≡ n
  pub each : (p r : ℕ) (b : BookValue) → r < 2 → slice_get books (2 * p + r) ≡ Some b
      → IsReplicaOf t p r b model.fresh

-- the messages are the world's frames, of channels that are there
pub record AreFrames (t : TopologyValue) (bag : List ChannelMessage)
    (w : model.World (List ℕ)) : Type 0 where
  pub frames : map (frame_of t) bag ≡ w.bag
  pub named : (i : ℕ) (m : ChannelMessage) → slice_get bag i ≡ Some m
      → message_channel m < length t.receivers

-- books and messages are those of the model's world
pub record IsWorld (t : TopologyValue) (books : List BookValue) (bag : List ChannelMessage)
    (w : model.World (List ℕ)) : Type 0 where
  pub replicas : AreReplicas t books w
  pub sent : AreFrames t bag w

-- these are the messages of channel c from number n on
pub record AreMessages (b : BookValue) (c n : ℕ) (messages : List ChannelMessage) : Type 0 where
  pub frames : map (frame_of b.topology) messages
      ≡ model.data_frames (receiving_iface b.topology c) n (drop n (sent_over b c))
  pub named : (i : ℕ) (m : ChannelMessage) → slice_get messages i ≡ Some m → message_channel m ≡ c

-- message n of channel c was put behind others
pub record IsPushed (b : BookValue) (c n : ℕ) (before after : List ChannelMessage) : Type 0 where
  pub message : DataValue
  pub pushed : after ≡ before ++ DataMessage message ∷ []
  pub channel : message.channel ≡ c
  pub number : message.number ≡ n
  pub sent : nth (sent_over b c) n ≡ Some (message.time, message.packet)

abbrev pub happens : TopologyValue → model.World (List ℕ) → WorldStep
    → model.World (List ℕ) × model.Outcome
happens t w s = model.happens (net_of t) same_octets w (step_of t s)

-- Want of memory changed nothing, but a run did so many whole events.
abbrev pub Interrupts : TopologyValue → model.World (List ℕ) → WorldStep → List BookValue
    → List ChannelMessage → Type 0
Interrupts t w (Run p r limit) books bag =
    (n : ℕ) × (n < limit) × IsWorld t books bag (happens t w (Run p r n)).0
Interrupts t w (Data p r c n) books bag = IsWorld t books bag w
Interrupts t w (Resend p r c n) books bag = IsWorld t books bag w
Interrupts t w (Null p r c) books bag = IsWorld t books bag w
Interrupts t w (OldNull p r c) books bag = IsWorld t books bag w
Interrupts t w (Deliver i r) books bag = IsWorld t books bag w
Interrupts t w (Merge p r) books bag = IsWorld t books bag w
Interrupts t w (Restart p r) books bag = IsWorld t books bag w

-- A step leaves the world and answers as the model says; or it names what is not there, and changed
-- nothing; or memory was refused.
abbrev pub Steps : TopologyValue → model.World (List ℕ) → WorldStep → Result StepAnswer Stop
    → List BookValue → List ChannelMessage → Type 0
Steps t w s (Ok a) books bag =
    (outcome_of t a ≡ Some (happens t w s).1) × IsWorld t books bag (happens t w s).0
Steps t w s (Err NoSuch) books bag = ((happens t w s).1 ≡ model.NoSuch) × IsWorld t books bag w
Steps t w s (Err Memory) books bag = Interrupts t w s books bag
