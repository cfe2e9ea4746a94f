-- What a book takes in.
use Rattle.std.specs.Prelude.{◌≡◌, ℕ, Bool, true, false, List, slice_index_or, slice_set, Some, Result, Ok, Err}
use Rattle.nm_topology.specs.Topology.{receiving_iface}
use Rattle.nm_model.specs.Accept as model
use Rattle.nm_model.specs.Knowledge.{Know, nothing_known}
use Rattle.nm_model.specs.Partition.{comes_in}
use Rattle.nm_knowledge.specs.Answers.{answer, reason}
use Rattle.nm_knowledge.specs.Octets.{same_octets}
use Rattle.nm_knowledge.specs.declared.answer.Accepted.{Accepted}
use Rattle.nm_knowledge.specs.declared.answer.KnowFault.{KnowFault}
use Rattle.nm_knowledge.specs.declared.answer.KnowFault.TheVariants.{Memory}
use Rattle.nm_sim.specs.Network.{net_of}
use Rattle.nm_book.specs.Book.{BookValue}
use Rattle.nm_book.specs.declared.message.ChannelMessage.{ChannelMessage}
use Rattle.nm_book.specs.declared.message.ChannelMessage.TheVariants.{Data as DataMessage, Null as NullMessage}
use Rattle.nm_book.specs.declared.fault.AcceptFault.{AcceptFault}
use Rattle.nm_book.specs.declared.fault.AcceptFault.TheVariants.{Known, Stranger}

-- why nothing was learned: the model's function says so; or a message that is new found no memory
abbrev pub IsNotLearned : model.Accepted (List ℕ) → KnowFault → Type 0
IsNotLearned taken Memory = taken.answer ≡ model.New
IsNotLearned taken f = Some taken.answer ≡ reason f

-- of channel c the model's function's result is learned; or nothing
abbrev pub Learns : List (Know (List ℕ)) → List (Know (List ℕ)) → ℕ → model.Accepted (List ℕ)
    → Result Accepted AcceptFault → Type 0
Learns old new c taken (Ok a) =
    (Some taken.answer ≡ answer (Ok a)) × (new ≡ slice_set old c taken.after)
Learns old new c taken (Err e) =
    (f : KnowFault) × (e ≡ Known f) × IsNotLearned taken f × (new ≡ old)

-- the same if the channel may not come in here: then nothing is
abbrev pub LearnsIf : Bool → List (Know (List ℕ)) → List (Know (List ℕ)) → ℕ
    → model.Accepted (List ℕ) → Result Accepted AcceptFault → Type 0
LearnsIf true old new c taken result = Learns old new c taken result
LearnsIf false old new c taken result = (result ≡ Err Stranger) × (new ≡ old)

-- what the model's function says of message n of channel c
abbrev pub data_taken : List (Know (List ℕ)) → ℕ → ℕ → ℕ → List ℕ → model.Accepted (List ℕ)
data_taken knows c n time packet =
    model.accept_data same_octets (slice_index_or knows c nothing_known) n (time, packet)

-- and of a null message
abbrev pub null_taken : List (Know (List ℕ)) → ℕ → ℕ → ℕ → model.Accepted (List ℕ)
null_taken knows c n time = model.accept_null (slice_index_or knows c nothing_known) n time

-- A book takes in a message or a null message of channel c, if that comes in here: nothing but what
-- it knows of it changes.
pub record Takes (old new : BookValue) (c : ℕ) (taken : model.Accepted (List ℕ))
    (result : Result Accepted AcceptFault) : Type 0 where
  pub learns : LearnsIf
      (comes_in (net_of old.topology) old.partition
      (receiving_iface old.topology c)) old.knows new.knows c taken result
  pub same : new ≡ record old { knows = new.knows }

-- and of a message or a null message
abbrev pub message_taken : List (Know (List ℕ)) → ChannelMessage → model.Accepted (List ℕ)
message_taken knows (DataMessage d) = data_taken knows d.channel d.number d.time d.packet
message_taken knows (NullMessage n) = null_taken knows n.channel n.count n.clock
