-- What a session is, and what it takes and forgets.
use Rattle.std.specs.Prelude.{ℕ, Bool, true, false, not, ◌==◌, ◌||◌, nat_lt, nat_eq, List, map, Option, Some, None, Result, Ok, Err, if◌then◌else◌}
use Rattle.std.specs.List.{list_any}
use Rattle.std.specs.Cmp.Lexicographic.{pointwise}
use Rattle.nm_topology.specs.TopologyValue.{TopologyValue}
use Rattle.nm_book.specs.declared.message.ChannelMessage.TheVariants.{Data as DataMessage, Null as NullMessage}
use Rattle.nm_frames.specs.declared.frame.Frame.{Frame}
use Rattle.nm_frames.specs.declared.frame.Frame.TheVariants.{Hello, Have, Data, Null, Bye}
use Rattle.nm_frames.specs.declared.replica_name.ReplicaName.{ReplicaName}
use Rattle.nm_frames.specs.declared.session_fault.SessionFault.{SessionFault}
use Rattle.nm_frames.specs.declared.session_fault.SessionFault.TheVariants.{Order, Version as BadVersion, Topology, Peer, Channel}
use Rattle.nm_frames.specs.declared.side.ChannelIn.{ChannelIn}
use Rattle.nm_frames.specs.declared.side.ChannelOut.{ChannelOut}
use Rattle.nm_frames.specs.declared.taken.Taken.{Taken}
use Rattle.nm_frames.specs.declared.taken.Taken.TheVariants.{Greeted, Cursor, ForBook, Ended}
use Rattle.nm_frames.specs.declared.version.Version.{Version}
use Rattle.nm_frames.specs.declared.version.Version.TheVariants.{Two}
use Rattle.nm_frames.specs.Channels.{channels_between}
use Rattle.nm_frames.specs.Version.{lesser_version, other_version, version_of}

-- Who speaks to whom of which topology; the channels that come from the peer, and those that go to
-- it, by number; the versions of the Hellos given and taken since the last break, the replica of
-- the one that was taken, and the version of the next Hello, if the peer's does not lower it;
-- whether Bye was given and taken.
pub record SessionValue : Type 0 where
  pub me : ℕ
  pub replica : ℕ
  pub peer : ℕ
  pub digest : List ℕ
  pub incoming : List ChannelIn
  pub outgoing : List ChannelOut
  pub hello_given : Option Version
  pub hello_taken : Option Version
  pub peer_replica : Option ℕ
  pub offered : Version
  pub bye_given : Bool
  pub bye_taken : Bool

-- a channel of which nothing was given or taken
abbrev pub new_incoming : ℕ → ChannelIn
new_incoming c = record { channel = c; have_given = false }

abbrev pub new_outgoing : ℕ → ChannelOut
new_outgoing c = record { channel = c; cursor = None; last_null = None }

abbrev pub new_session : TopologyValue → ℕ → ℕ → ℕ → SessionValue
new_session t me replica peer = record {
  me = me;
  replica = replica;
  peer = peer;
  digest = t.digest;
  incoming = map new_incoming (channels_between t peer me);
  outgoing = map new_outgoing (channels_between t me peer);
  hello_given = None;
  hello_taken = None;
  peer_replica = None;
  offered = Two;
  bye_given = false;
  bye_taken = false;
}

abbrev pub is_there : Option Version → Bool
is_there None = false
is_there (Some v) = true

-- the version of the Hello that is given: no greater than that of one that was taken
abbrev pub next_version : Option Version → Version → Version
next_version None v = v
next_version (Some w) v = lesser_version w v

-- the version of the session: the lesser of both Hellos'
abbrev pub session_version : Option Version → Option Version → Version
session_version None taken = next_version taken Two
session_version (Some v) taken = next_version taken v

-- which replica a peer is, by the number in its Hello, if that was taken
abbrev pub named_by : ℕ → Option ℕ → Option ReplicaName
named_by partition None = None
named_by partition (Some replica) = Some (record { partition = partition; replica = replica })

abbrev pub peer_name : SessionValue → Option ReplicaName
peer_name s = named_by s.peer s.peer_replica

-- ---- what is taken

-- a change of one channel
abbrev pub with_channel : ℕ → (ChannelOut → ChannelOut) → ChannelOut → ChannelOut
with_channel c change o = if o.channel == c then change o else o

-- the peer holds n messages: message n is next, and no null message was given
abbrev pub restarted : ℕ → ChannelOut → ChannelOut
restarted n o = record { channel = o.channel; cursor = Some n; last_null = None }

abbrev pub comes_from_peer : SessionValue → ℕ → Bool
comes_from_peer s c = list_any (λ i. i.channel == c) s.incoming

abbrev pub goes_to_peer : SessionValue → ℕ → Bool
goes_to_peer s c = list_any (λ o. o.channel == c) s.outgoing

-- a Hello of this version, partition, replica and digest
abbrev pub greeted : SessionValue → Option Version → ℕ → ℕ → List ℕ
    → Result SessionValue SessionFault
greeted s None partition replica digest = Err BadVersion
greeted s (Some v) partition replica digest =
    if not (pointwise nat_eq digest s.digest) then Err Topology
    else if not (partition == s.peer) || nat_lt 1 replica then Err Peer
    else Ok (record s { hello_taken = Some v; peer_replica = Some replica })

-- the first frame
abbrev pub taken_first : SessionValue → Frame → Result SessionValue SessionFault
taken_first s (Hello h) = greeted s (version_of h.version) h.partition h.replica h.digest
taken_first s (Have h) = Err Order
taken_first s (Data d) = Err Order
taken_first s (Null n) = Err Order
taken_first s Bye = Err Order

-- a later one
abbrev pub taken_later : SessionValue → Frame → Result SessionValue SessionFault
taken_later s (Hello h) = Err Order
taken_later s (Have h) =
    if goes_to_peer s h.channel
    then Ok (record s { outgoing = map (with_channel h.channel (restarted h.count)) s.outgoing })
    else Err Channel
taken_later s (Data d) = if comes_from_peer s d.channel then Ok s else Err Channel
taken_later s (Null n) = if comes_from_peer s n.channel then Ok s else Err Channel
taken_later s Bye = Ok (record s { bye_taken = true })

-- the session after a frame, or why it is refused
abbrev pub taken : SessionValue → Frame → Result SessionValue SessionFault
taken s f =
    if s.bye_taken then Err Order
    else if is_there s.hello_taken then taken_later s f
    else taken_first s f

-- the use of a frame
abbrev pub purpose : Frame → Taken
purpose (Hello h) = Greeted
purpose (Have h) = Cursor
purpose (Data d) = ForBook (DataMessage d)
purpose (Null n) = ForBook (NullMessage n)
purpose Bye = Ended

-- ---- what a break forgets

-- the version that is offered then: the other one if a Hello was given and none taken
abbrev pub offered_after : Option Version → Option Version → Version → Version
offered_after None taken v = v
offered_after (Some w) None v = other_version w
offered_after (Some w) (Some x) v = v

abbrev pub broken : SessionValue → SessionValue
broken s = record s {
  incoming = map (λ i. new_incoming i.channel) s.incoming;
  outgoing = map (λ o. new_outgoing o.channel) s.outgoing;
  hello_given = None;
  hello_taken = None;
  peer_replica = None;
  offered = offered_after s.hello_given s.hello_taken s.offered;
  bye_given = false;
  bye_taken = false;
}
