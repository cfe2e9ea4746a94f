-- What contracts see of a book.
use Rattle.std.specs.Prelude.{ℕ, Bool, ltb, ◌&&◌, true, false, List, length, slice_index_or, Option, Some, None}
use Rattle.nm_topology.specs.Topology.{channel_from, receiving_iface}
use Rattle.nm_topology.specs.TopologyValue.{TopologyValue}
use Rattle.nm_model.specs.Knowledge.{Know, Knowledge, nothing_known}
use Rattle.nm_model.specs.Partition.{comes_in, goes_out}
use Rattle.nm_model.specs.Promise.{Promising, promise}
use Rattle.nm_model.specs.Replica.{from_scratch, safe_time}
use Rattle.nm_model.specs.Run.{State}
use Rattle.nm_model.specs.World.{Replica}
use Rattle.nm_forward.specs.State.{NodeStateValue}
use Rattle.nm_knowledge.specs.Answers.{know_fault_number}
use Rattle.nm_sim.specs.Network.{net_of}
use Rattle.nm_book.specs.declared.message.ChannelMessage.{ChannelMessage}
use Rattle.nm_book.specs.declared.message.ChannelMessage.TheVariants.{Data as DataMessage, Null as NullMessage}
use Rattle.nm_book.specs.declared.message.Data.{Data}
use Rattle.nm_book.specs.declared.message.Null.{Null}
use Rattle.nm_book.specs.declared.fault.AcceptFault.{AcceptFault}
use Rattle.nm_book.specs.declared.fault.AcceptFault.TheVariants.{Known, Stranger}

-- a replica: its topology, partition and number, what it knows of each channel by the channel's
-- number, how many events it did, and how many of its records were handed out
pub record BookValue : Type 0 where
  pub topology : TopologyValue
  pub partition : ℕ
  pub replica : ℕ
  pub knows : List (Know (List ℕ))
  pub events : ℕ
  pub handed : ℕ

-- what a list by channel numbers knows of a channel
abbrev pub known_at : List (Know (List ℕ)) → Option ℕ → Know (List ℕ)
known_at knows None = nothing_known
known_at knows (Some c) = slice_index_or knows c nothing_known

abbrev pub knowledge_of : TopologyValue → List (Know (List ℕ)) → Knowledge (List ℕ)
knowledge_of t knows i = known_at knows (channel_from 0 t.receivers i)

abbrev pub knowledge : BookValue → Knowledge (List ℕ)
knowledge b = knowledge_of b.topology b.knows

-- the state of its part: that of a replica from scratch
abbrev pub state_of : BookValue → State (List ℕ) NodeStateValue
state_of b = from_scratch (net_of b.topology) b.partition (knowledge b) b.events

-- whether channel c comes in here, and whether it goes out
abbrev pub is_incoming : BookValue → ℕ → Bool
is_incoming b c = comes_in (net_of b.topology) b.partition (receiving_iface b.topology c)

abbrev pub is_outgoing : BookValue → ℕ → Bool
is_outgoing b c = goes_out (net_of b.topology) b.partition (receiving_iface b.topology c)

-- what it put on channel c so far, each packet with its time of arrival
abbrev pub sent_over : BookValue → ℕ → List (ℕ × List ℕ)
sent_over b c = (state_of b).sent (receiving_iface b.topology c)

-- its promise of channel c
abbrev pub promise_on : Promising → BookValue → ℕ → ℕ
promise_on kind b c = promise (net_of b.topology) kind b.partition (knowledge b) b.events
    (receiving_iface b.topology c)

-- its safe time
abbrev pub safe_of : BookValue → ℕ
safe_of b = safe_time (net_of b.topology) b.partition (knowledge b)

-- the null message of channel c with this promise
abbrev pub null_on : Promising → BookValue → ℕ → Null
null_on kind b c = record {
  channel = c;
  count = length (sent_over b c);
  clock = promise_on kind b c;
}

-- message n of channel c, if it was sent
abbrev pub data_from : ℕ → ℕ → Option (ℕ × List ℕ) → Option Data
data_from c n None = None
data_from c n (Some m) = Some (record { channel = c; number = n; time = m.0; packet = m.1 })

-- this, if it is so
abbrev pub only_if : {A : Type 0} → Bool → A → Option A
only_if true x = Some x
only_if false x = None

-- the book as the model's replica
abbrev pub replica_of : BookValue → Replica (List ℕ)
replica_of b = record { knowledge = knowledge b; ran = b.events }

-- the channel of a message or a null message
abbrev pub message_channel : ChannelMessage → ℕ
message_channel (DataMessage d) = d.channel
message_channel (NullMessage n) = n.channel

abbrev pub accept_fault_number : AcceptFault → ℕ
accept_fault_number Stranger = 7
accept_fault_number (Known f) = know_fault_number f

-- whether the topology has this partition, and it this replica
abbrev pub is_replica : TopologyValue → ℕ → ℕ → Bool
is_replica t p r = ltb p t.partitions && ltb r 2
