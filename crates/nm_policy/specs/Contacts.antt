-- The contacts of a replica, and how events change them.
use Rattle.std.specs.Prelude.{ℕ, ◌+◌, ◌*◌, Bool, false, not, ◌&&◌, nat_lt, List, length, map, slice_index_or, slice_set, Option, Some, None, is_some, option_map, if◌then◌else◌}
use Rattle.nm_base.specs.Count.{saturated}
use Rattle.nm_frames.specs.declared.replica_name.ReplicaName.{ReplicaName}
use Rattle.nm_policy.specs.Contact.{accepted_contact, called_contact, has_settled, heard, met, polled, replaced_by}
use Rattle.nm_policy.specs.Ends.{ended_by, has_ended}
use Rattle.nm_policy.specs.Peers.{called, link_broke, link_ended, new_peer, not_called, rested}
use Rattle.nm_policy.specs.declared.callers.Caller.{Caller}
use Rattle.nm_policy.specs.declared.contact.Contact.{Contact}
use Rattle.nm_policy.specs.declared.contact_event.ContactEvent.{ContactEvent}
use Rattle.nm_policy.specs.declared.contact_event.ContactEvent.TheVariants.{Polled, Called, NotCalled, Accepted, Heard, Greeted, Ended, Broke}
use Rattle.nm_policy.specs.declared.limits.TheConstants.{MAX_STRANGERS}
use Rattle.nm_policy.specs.declared.peer.Peer.{Peer}

-- The peers that the replica calls, by number; the replicas that call it; the open connections, by
-- key; and how many it accepted.
pub record ContactsValue : Type 0 where
  pub peers : List Peer
  pub callers : List Caller
  pub connections : List (Option Contact)
  pub accepted : ℕ

-- How many connections there is room for, by the numbers of peers and of callers: one for each
-- peer, and twice as many as there may be strangers, since connections with a Hello stay until they
-- are closed. It stops at the greatest `usize`.
abbrev pub room_for : (peers callers : ℕ) → ℕ
room_for peers callers = saturated (peers + 2 * (MAX_STRANGERS + callers))

-- the connection with this key, if there is one
abbrev pub contact_at : List (Option Contact) → ℕ → Option Contact
contact_at connections key = slice_index_or connections key None

-- there is room for a connection with this key, and none has it
abbrev pub is_free_at : List (Option Contact) → ℕ → Bool
is_free_at connections key =
    nat_lt key (length connections) && not (is_some (contact_at connections key))

-- the peer to which the replica began a connection, if it did
abbrev pub peer_of : Option Contact → Option ℕ
peer_of None = None
peer_of (Some c) = c.peer

-- the connections with this one at a key, if there is room for it
abbrev pub with_contact : ℕ → Contact → List (Option Contact) → List (Option Contact)
with_contact key c connections = slice_set connections key (Some c)

-- the connections without the one at this key
abbrev pub without_contact : ℕ → ContactsValue → ContactsValue
without_contact key s = record s { connections = slice_set s.connections key None }

-- the peers after a change of the one with this number, if there is one
abbrev pub with_peer : ℕ → (Peer → Peer) → List Peer → List Peer
with_peer peer change peers =
    if nat_lt peer (length peers) then
    slice_set peers peer (change (slice_index_or peers peer new_peer))
    else peers

-- the replica waits for this peer: their link has not ended
abbrev pub waits_at : ℕ → List Peer → Bool
waits_at peer peers = not (has_ended (slice_index_or peers peer new_peer).ends)

-- a slot has a connection of this kind
abbrev pub is_slot : (Contact → Bool) → Option Contact → Bool
is_slot kind None = false
is_slot kind (Some c) = kind c

-- The connection's first Hello names its sender. If the sender began the connection, it has
-- replaced those that it began before.
abbrev pub greets : ℕ → ReplicaName → Contact → ContactsValue → ContactsValue
greets key name c s =
    if is_some c.name then s
    else if is_some c.peer
    then record s { connections = with_contact key (met name c) s.connections }
    else record s {
      connections =
          with_contact key (met name c) (map (option_map (replaced_by name)) s.connections);
    }

-- after the end of a link: that of the peer to which the connection was begun, or of its caller
abbrev pub ends_of : Option ℕ → Option ReplicaName → ContactsValue → ContactsValue
ends_of (Some peer) name s = record s { peers = with_peer peer link_ended s.peers }
ends_of None (Some name) s = record s { callers = map (ended_by name) s.callers }
ends_of None None s = s

-- after the break of a connection: that of the peer to which it was begun
abbrev pub breaks_of : (change : Peer → Peer) → Option ℕ → ContactsValue → ContactsValue
breaks_of change (Some peer) s = record s { peers = with_peer peer change s.peers }
breaks_of change None s = s

abbrev pub greeted_at : ℕ → ReplicaName → Option Contact → ContactsValue → ContactsValue
greeted_at key name None s = s
greeted_at key name (Some c) s = greets key name c s

abbrev pub ended_at : ℕ → Option Contact → ContactsValue → ContactsValue
ended_at key None s = s
ended_at key (Some c) s = ends_of c.peer c.name (without_contact key s)

abbrev pub broke_at : ℕ → (was_there : Bool) → Option Contact → ContactsValue → ContactsValue
broke_at key was_there None s = s
broke_at key was_there (Some c) s =
    breaks_of (link_broke (is_some c.name) (has_settled c) was_there) c.peer (without_contact key s)

-- what is known after an event
abbrev pub after : ContactsValue → ContactEvent → ContactsValue
after s (Polled ran_out) = record s {
  peers = map (rested ran_out) s.peers;
  connections = map (option_map (polled ran_out)) s.connections;
}
after s (Called key peer) = record s {
  peers = with_peer peer called s.peers;
  connections = with_contact key (called_contact peer (waits_at peer s.peers)) s.connections;
}
after s (NotCalled peer) = record s { peers = with_peer peer not_called s.peers }
after s (Accepted key) = record s {
  connections = with_contact key (accepted_contact (saturated (s.accepted + 1))) s.connections;
  accepted = saturated (s.accepted + 1);
}
after s (Heard key) =
    record s { connections = slice_set s.connections key (option_map heard (contact_at s.connections key)) }
after s (Greeted key name) = greeted_at key name (contact_at s.connections key) s
after s (Ended key) = ended_at key (contact_at s.connections key) s
after s (Broke key was_there) = broke_at key was_there (contact_at s.connections key) s
