-- What a replica notes of its peers and of its book, for those that watch it.
use Rattle.std.specs.Prelude.{◌≡◌, ℕ, ◌^◌, ◌&&◌, Bool, true, false, not, nat_lt, Option, Some, None, IfSome, is_some, option_map, if◌then◌else◌}
use Rattle.nm_engine.specs.Link.{has_greeted}
use Rattle.nm_engine.specs.declared.answer.Cause.{Cause}
use Rattle.nm_engine.specs.declared.answer.Cause.TheVariants as cause
use Rattle.nm_engine.specs.declared.answer.Turn.{Turn}
use Rattle.nm_engine.specs.declared.answer.Turn.TheVariants as turn
use Rattle.nm_frames.specs.declared.replica_name.ReplicaName.{ReplicaName}
use Rattle.nm_policy.specs.Awaited.{IsFirstAwaited, first_awaited_caller}
use Rattle.nm_policy.specs.Contacts.{ContactsValue, peer_of}
use Rattle.nm_policy.specs.declared.callers.Caller.{Caller}
use Rattle.nm_policy.specs.declared.contact.Contact.{Contact}
use Rattle.nm_progress.specs.declared.peers.PeerName.{PeerName}
use Rattle.nm_progress.specs.declared.peers.PeerName.TheVariants as peer
use Rattle.nm_replica.specs.declared.acts.Standing.{Standing}
use Rattle.nm_replica.specs.declared.connection.Connection.{Connection}
use Rattle.nm_replica.specs.declared.noting.NotedProgress.{NotedProgress}

-- a replica that calls
abbrev pub caller_name : ReplicaName → PeerName
caller_name name = peer.Caller (record { partition = name.partition; replica = name.replica })

-- a peer that is called, by its number, which a `u32` can hold
abbrev pub called_name : ℕ → Option PeerName
called_name number = if nat_lt number (2 ^ 32) then Some (peer.Called number) else None

abbrev pub name_at : Option ℕ → Option PeerName
name_at None = None
name_at (Some number) = called_name number

-- the first peer for which a replica waits: one that it calls, or else a caller
abbrev pub awaited_name : Option ℕ → Option Caller → Option PeerName
awaited_name None caller = option_map (λ k. caller_name k.name) caller
awaited_name (Some number) caller = called_name number

abbrev pub IsAwaitedName : ContactsValue → Option PeerName → Type 0
IsAwaitedName s name =
    (first : Option ℕ) × IsFirstAwaited s first
    × (name ≡ awaited_name first (first_awaited_caller s))

-- the peer sends no more on a connection, and had not sent its Hello
abbrev pub has_closed_early : {W : Type 0} → Option (Connection W) → Bool
has_closed_early None = false
has_closed_early (Some c) = c.link.wire.has_ended && not (has_greeted c.link.session)

-- the peer that a replica called by a connection, if it has closed that early
abbrev pub closing_name : {W : Type 0} → Option Contact → Option (Connection W) → Option PeerName
closing_name contact connection =
    if has_closed_early connection then name_at (peer_of contact) else None

-- a link broke in a turn by what its session found
abbrev pub is_session : Cause → Bool
is_session cause.End = false
is_session cause.Fault = false
is_session cause.Frame = false
is_session cause.Session = true
is_session cause.Book = false
is_session cause.Memory = false

abbrev pub is_session_break : Turn → Bool
is_session_break turn.Progress = false
is_session_break turn.Idle = false
is_session_break turn.Ended = false
is_session_break (turn.Broken why) = is_session why
is_session_break turn.Failed = false

-- who sent a Hello of another topology, if a link broke by that
abbrev pub differing_name : Turn → Option ReplicaName → Option PeerName
differing_name last name = if is_session_break last then option_map caller_name name else None

-- the progress of a book is noted, or not
pub record NotesProgress (notes : Bool) (s : Standing) (noted : Option NotedProgress) : Type 0 where
  pub whether : is_some noted ≡ notes
  pub value : IfSome noted (λ n. (n.safe ≡ s.safe) × (n.records ≡ s.records))
