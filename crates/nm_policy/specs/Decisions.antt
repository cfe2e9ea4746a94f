-- What a replica's contacts require it to do.
use Rattle.std.specs.Prelude.{◌≡◌, ℕ, ◌+◌, ◌<◌, ◌≤◌, Bool, true, false, not, ◌&&◌, ◌||◌, nat_le, nat_lt, List, count_by, length, slice_index_or, Option, Some, None}
use Rattle.std.specs.List.{list_any}
use Rattle.nm_policy.specs.Contact.{has_greeted, is_guest, is_stranger}
use Rattle.nm_policy.specs.Contacts.{ContactsValue, contact_at, is_slot}
use Rattle.nm_policy.specs.Ends.{has_ended}
use Rattle.nm_policy.specs.Peers.{is_missing, is_due, new_peer}
use Rattle.nm_policy.specs.declared.contact.Contact.{Contact}
use Rattle.nm_policy.specs.declared.limits.TheConstants.{MAX_STRANGERS}
use Rattle.nm_policy.specs.declared.peer.Peer.{Peer}

-- there is a peer with this number, and it is to be called
abbrev pub is_due_at : List Peer → ℕ → Bool
is_due_at peers peer =
    nat_lt peer (length peers) && is_due (slice_index_or peers peer new_peer)

-- how many connections were accepted up to the one of a slot, itself included
abbrev pub came_of : Option Contact → ℕ
came_of None = 0
came_of (Some c) = c.came

-- there is a stranger at this key
abbrev pub is_stranger_at : List (Option Contact) → ℕ → Bool
is_stranger_at connections key = is_slot is_stranger (contact_at connections key)

-- the key of the oldest stranger below this key, or nothing if there is none
abbrev pub IsFirstBelow : List (Option Contact) → ℕ → Option ℕ → Type 0
IsFirstBelow connections below None =
    (key : ℕ) → key < below → is_stranger_at connections key ≡ false
IsFirstBelow connections below (Some key) =
    (is_stranger_at connections key ≡ true)
    × ((other : ℕ) → other < below → is_stranger_at connections other ≡ true
    → came_of (contact_at connections key) ≤ came_of (contact_at connections other))

-- and of all keys
abbrev pub IsFirstStranger : List (Option Contact) → Option ℕ → Type 0
IsFirstStranger connections first = IsFirstBelow connections (length connections) first

-- there are so many strangers that the next one replaces the oldest
abbrev pub are_too_many : ContactsValue → Bool
are_too_many s =
    nat_le (MAX_STRANGERS + length s.callers) (count_by (is_slot is_stranger) s.connections)

-- the stranger that is replaced then, if there is one
abbrev pub IsToDropAmong : (are_too_many : Bool) → List (Option Contact) → Option ℕ → Type 0
IsToDropAmong true connections first = IsFirstStranger connections first
IsToDropAmong false connections first = first ≡ None

abbrev pub IsToDrop : ContactsValue → Option ℕ → Type 0
IsToDrop s first = IsToDropAmong (are_too_many s) s.connections first

-- A peer is not connected and its link has not ended, or fewer callers are connected than have
-- links that have not ended.
abbrev pub are_missing : ContactsValue → Bool
are_missing s =
    list_any is_missing s.peers
    || nat_lt (count_by (is_slot is_guest) s.connections) (count_by (λ k. not (has_ended k.ends)) s.callers)

-- A connection is open on which the peer sent Hello. That peer may have been restarted, and then
-- all is sent to it again.
abbrev pub are_serving : ContactsValue → Bool
are_serving s = list_any (is_slot has_greeted) s.connections
