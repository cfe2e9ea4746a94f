-- For whom a replica waits: each peer or caller with a link that has not ended and without a
-- connection on which it sent Hello.
use Rattle.std.specs.Prelude.{◌≡◌, ℕ, ◌<◌, ◌==◌, Bool, true, false, not, ◌&&◌, nat_lt, List, length, slice_index_or, Option, Some, None}
use Rattle.std.specs.List.{find, list_any}
use Rattle.nm_policy.specs.Contact.{has_greeted, is_from}
use Rattle.nm_policy.specs.Contacts.{ContactsValue, is_slot}
use Rattle.nm_policy.specs.Ends.{has_ended}
use Rattle.nm_policy.specs.Peers.{new_peer}
use Rattle.nm_policy.specs.declared.callers.Caller.{Caller}
use Rattle.nm_policy.specs.declared.contact.Contact.{Contact}

abbrev pub is_number : ℕ → Option ℕ → Bool
is_number n None = false
is_number n (Some m) = m == n

-- the replica began the connection to this peer, which sent Hello on it
abbrev pub is_met_peer : ℕ → Contact → Bool
is_met_peer peer c = is_number peer c.peer && has_greeted c

-- the replica waits for the peer with this number
abbrev pub is_awaited_at : ContactsValue → ℕ → Bool
is_awaited_at s peer =
    nat_lt peer (length s.peers)
    && not (has_ended (slice_index_or s.peers peer new_peer).ends)
    && not (list_any (is_slot (is_met_peer peer)) s.connections)

-- the first such peer, or nothing if there is none
abbrev pub IsFirstAwaited : ContactsValue → Option ℕ → Type 0
IsFirstAwaited s None = (peer : ℕ) → is_awaited_at s peer ≡ false
IsFirstAwaited s (Some first) =
    (is_awaited_at s first ≡ true)
    × ((peer : ℕ) → peer < first → is_awaited_at s peer ≡ false)

-- the replica waits for this caller
abbrev pub is_awaited_caller : List (Option Contact) → Caller → Bool
is_awaited_caller connections k =
    not (has_ended k.ends) && not (list_any (is_slot (is_from k.name)) connections)

abbrev pub first_awaited_caller : ContactsValue → Option Caller
first_awaited_caller s = find (is_awaited_caller s.connections) s.callers
