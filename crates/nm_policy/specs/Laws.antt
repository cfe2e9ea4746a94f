-- Which events may come, and what holds after any of them.
use Rattle.std.specs.Prelude.{◌≡◌, ℕ, suc, zero, true, List, [], ◌∷◌, length, map, replicate, Some, None}
use Rattle.nm_frames.specs.declared.replica_name.ReplicaName.{ReplicaName}
use Rattle.nm_policy.specs.Contact.{polled}
use Rattle.nm_policy.specs.Contacts.{ContactsValue, after, contact_at, is_free_at, peer_of, room_for}
use Rattle.nm_policy.specs.Decisions.{is_due_at}
use Rattle.nm_policy.specs.Ends.{new_caller}
use Rattle.nm_policy.specs.Peers.{new_peer}
use Rattle.nm_policy.specs.declared.contact.Contact.{Contact}
use Rattle.nm_policy.specs.declared.contact_event.ContactEvent.{ContactEvent}
use Rattle.nm_policy.specs.declared.contact_event.ContactEvent.TheVariants.{Polled, Called, NotCalled, Accepted, Heard, Greeted, Ended, Broke}

-- nobody is connected: so many peers are to be called, and these replicas call
abbrev pub at_first : ℕ → List ReplicaName → ContactsValue
at_first peers callers = record {
  peers = replicate peers new_peer;
  callers = map new_caller callers;
  connections = replicate (room_for peers (length callers)) None;
  accepted = 0;
}

-- An event may come if each key has room and belongs to one connection at a time, and if only peers
-- that are to be called are called.
abbrev pub MayCome : ContactsValue → ContactEvent → Type 0
MayCome s (Polled ran_out) = Unit {0}
MayCome s (Called key peer) =
    (is_free_at s.connections key ≡ true) × (is_due_at s.peers peer ≡ true)
MayCome s (NotCalled peer) = Unit {0}
MayCome s (Accepted key) = is_free_at s.connections key ≡ true
MayCome s (Heard key) = Unit {0}
MayCome s (Greeted key name) = Unit {0}
MayCome s (Ended key) = Unit {0}
MayCome s (Broke key was_there) = Unit {0}

-- each of the events may come after those before it
abbrev pub MayAllCome : ContactsValue → List ContactEvent → Type 0
MayAllCome s [] = Unit {0}
MayAllCome s (e ∷ es) = MayCome s e × MayAllCome (after s e) es

-- what is known after all of them
abbrev pub after_all : ContactsValue → List ContactEvent → ContactsValue
after_all s [] = s
after_all s (e ∷ es) = after_all (after s e) es

-- the connection with this key leads to this peer
abbrev pub LeadsTo : ContactsValue → (key peer : ℕ) → Type 0
LeadsTo s key peer = peer_of (contact_at s.connections key) ≡ Some peer

-- a connection after so many polls that ran out
abbrev pub polled_for : ℕ → Contact → Contact
polled_for zero c = c
polled_for (suc n) c = polled true (polled_for n c)
