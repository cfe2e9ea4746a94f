-- The first frame of a peer that connected names that peer and makes the session.
use Rattle.std.specs.Prelude.{ℕ, ◌<◌, nat_eq, nat_lt, ◌&&◌, length, Option, Some, None, Result, Err, if◌then◌else◌}
use Rattle.std.specs.Cmp.Lexicographic.{pointwise}
use Rattle.nm_topology.specs.TopologyValue.{TopologyValue}
use Rattle.nm_frames.specs.declared.frame.Frame.{Frame}
use Rattle.nm_frames.specs.declared.frame.Frame.TheVariants.{Hello, Have, Data, Null, Bye}
use Rattle.nm_frames.specs.declared.replica_name.ReplicaName.{ReplicaName}
use Rattle.nm_frames.specs.declared.session_fault.SessionFault.{SessionFault}
use Rattle.nm_frames.specs.declared.session_fault.SessionFault.TheVariants.{Order, Peer}
use Rattle.nm_frames.specs.Channels.{channels_between}
use Rattle.nm_frames.specs.Session.{SessionValue, new_session, taken}

-- the replica to which peers connect: of this topology and partition, with this number
pub record AcceptorValue : Type 0 where
  pub topology : TopologyValue
  pub me : ℕ
  pub replica : ℕ

-- its session with a replica of another partition
abbrev pub session_with : AcceptorValue → ℕ → SessionValue
session_with h peer = new_session h.topology h.me h.replica peer

-- the session after the first frame, or why that is refused: it must be a Hello of a partition
-- below its own from which a channel comes
abbrev pub first_taken : AcceptorValue → Frame → Result SessionValue SessionFault
first_taken h (Hello hello) =
    if nat_lt hello.partition h.me
    && nat_lt 0 (length (channels_between h.topology hello.partition h.me))
    then taken (session_with h hello.partition) (Hello hello)
    else Err Peer
first_taken h (Have count) = Err Order
first_taken h (Data message) = Err Order
first_taken h (Null promise) = Err Order
first_taken h Bye = Err Order

-- the sender of a first frame that is a Hello of another topology
abbrev pub differing_of : AcceptorValue → Frame → Option ReplicaName
differing_of h (Hello hello) =
    if pointwise nat_eq hello.digest h.topology.digest then None
    else Some (record { partition = hello.partition; replica = hello.replica })
differing_of h (Have count) = None
differing_of h (Data message) = None
differing_of h (Null promise) = None
differing_of h Bye = None

-- a first frame for which a session is made: a Hello of a partition below
abbrev pub IsFromBelow : AcceptorValue → Frame → Type 0
IsFromBelow h (Hello hello) = hello.partition < h.me
IsFromBelow h (Have count) = ⊥
IsFromBelow h (Data message) = ⊥
IsFromBelow h (Null promise) = ⊥
IsFromBelow h Bye = ⊥

-- the session after a frame, or why it is refused; a link has a session or an acceptor that
-- awaits one
abbrev pub taken_at : Option AcceptorValue → Option SessionValue → Frame
    → Result SessionValue SessionFault
taken_at acceptor (Some s) f = taken s f
taken_at (Some h) None f = first_taken h f
taken_at None None f = Err Order
