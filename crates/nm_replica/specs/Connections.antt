-- How events change contacts, and which connections are begun and closed.
use Rattle.std.specs.Prelude.{◌≡◌, ◌≢◌, ◌⊎◌, ◌+◌, ◌<◌, ◌≤◌, ℕ, suc, zero, Bool, true, false, ◌||◌, List, slice_index_or, slice_set, Option, Some, None, IfSome, IsSome, IsSomeAnd, if◌then◌else◌}
use Rattle.slab.specs.Slab.{Slab, Updates, get}
use Rattle.nm_engine.specs.Acceptor.{AcceptorValue}
use Rattle.nm_engine.specs.CountingWire.{reported}
use Rattle.nm_engine.specs.Link.{greeted_by}
use Rattle.nm_engine.specs.declared.answer.Cause.TheVariants as cause
use Rattle.nm_engine.specs.declared.answer.Turn.{Turn}
use Rattle.nm_engine.specs.declared.answer.Turn.TheVariants as turn
use Rattle.nm_frames.specs.Session.{SessionValue, broken}
use Rattle.nm_frames.specs.declared.replica_name.ReplicaName.{ReplicaName}
use Rattle.nm_base.specs.Count.{saturated}
use Rattle.nm_policy.specs.Contact.{has_greeted, is_stale}
use Rattle.nm_policy.specs.Contacts.{ContactsValue, after, contact_at, is_slot}
use Rattle.nm_policy.specs.Decisions.{IsFirstStranger, IsToDrop, is_due_at}
use Rattle.nm_policy.specs.Laws.{MayCome}
use Rattle.nm_policy.specs.declared.contact.Contact.{Contact}
use Rattle.nm_policy.specs.declared.contact_event.ContactEvent.TheVariants.{Called, NotCalled, Accepted, Heard, Greeted, Ended, Broke, Polled}
use Rattle.nm_replica.specs.Moved.{sends_no_more, was_there}
use Rattle.nm_replica.specs.declared.connection.Connection.{Connection}

-- a connection after a report: a read asks its wire
abbrev pub reported_connection : {W : Type 0} → Connection W → Connection W
reported_connection c = record c { link = record c.link { wire = reported c.link.wire } }

-- there may be something to read on a connection, if there is one
abbrev pub is_ready : {W : Type 0} → Option (Connection W) → Bool
is_ready None = false
is_ready (Some c) = c.link.wire.is_ready

-- there is nothing to read on any
abbrev pub IsNoneReady : {W : Type 0} → Slab (Connection W) → Type 0
IsNoneReady slab = (key : ℕ) → is_ready (get slab key) ≡ false

-- each connection is to be read
abbrev pub AreAllReady : {W : Type 0} → Slab (Connection W) → Type 0
AreAllReady slab = (key : ℕ) → IfSome (get slab key) (λ c. c.link.wire.is_ready ≡ true)

-- each connection whose key is in one of the first reports is to be read
abbrev pub AreReady : {W : Type 0} → (reported : ℕ → Option ℕ) → (first : ℕ) → Slab (Connection W)
    → Type 0
AreReady reported first slab =
    (k : ℕ) (key : ℕ) → k < first
    → ((j : ℕ) → j ≤ k → IsSome (reported j)) → reported k ≡ Some key
    → IfSome (get slab key) (λ c. c.link.wire.is_ready ≡ true)

-- no connection is looked at but those whose keys are in one of the first reports
abbrev pub KeepsUnreported : {W : Type 0} → (reported : ℕ → Option ℕ) → (first : ℕ)
    → (old new : Slab (Connection W)) → Type 0
KeepsUnreported reported first old new =
    (key : ℕ) → ((k : ℕ) → k < first → reported k ≢ Some key) → get new key ≡ get old key

-- a connection is closed; somebody was at its other end, or nobody
abbrev pub LetsGo : ℕ → (old new : ContactsValue) → Type 0
LetsGo key old new = (was_there : Bool) × (new ≡ after old (Broke key was_there))

-- so many connections are closed in turn, each of which is stale then
abbrev pub LetGoStale : ℕ → (old new : ContactsValue) → Type 0
LetGoStale zero old new = new ≡ old
LetGoStale (suc n) old new =
    (mid : ContactsValue) × LetGoStale n old mid
    × ((key : ℕ) × (is_slot is_stale (contact_at mid.connections key) ≡ true) × LetsGo key mid new)

-- those that are stale are closed, and no others
abbrev pub LetsStaleGo : (old new : ContactsValue) → Type 0
LetsStaleGo old new =
    ((n : ℕ) × LetGoStale n old new)
    × ((key : ℕ) → is_slot is_stale (contact_at new.connections key) ≡ false)

-- of these connections those that are stale are taken out, and the others stay as they are
abbrev pub TakesStaleOut : {W : Type 0} → ContactsValue → (old new : Slab (Connection W)) → Type 0
TakesStaleOut s old new =
    (key : ℕ) → get new key
    ≡ (if is_slot is_stale (contact_at s.connections key) then None else get old key)

-- the connection with this key is taken out, if one is to be closed
abbrev pub TakesFirstOut : {W : Type 0} → Option ℕ → (old new : Slab (Connection W)) → Type 0
TakesFirstOut None old new = new ≡ old
TakesFirstOut (Some key) old new = Updates old new key None

-- A peer is called: by a connection that leads to it and has its session, under a key that is
-- free; or no connection could be begun, and the sessions are as they were.
abbrev pub Dials : {W : Type 0} → (leads_to : W → Option ℕ)
    → (sessions : List (Option SessionValue) × List (Option SessionValue))
    → (peer : ℕ) → (old new : ContactsValue) → Slab (Connection W) → Type 0
Dials leads_to sessions peer old new slab =
    ((new ≡ after old (NotCalled peer)) × (sessions.1 ≡ sessions.0))
    ⊎ ((key : ℕ) × MayCome old (Called key peer) × (new ≡ after old (Called key peer))
    × IsSomeAnd (get slab key) (λ c. (leads_to c.link.wire.wire ≡ Some peer)
    × (c.link.session ≡ slice_index_or sessions.0 peer None)))

-- a peer that is due is called, or no connection to it could be begun
abbrev pub CallsOne : (old new : ContactsValue) → Type 0
CallsOne old new =
    (peer : ℕ) × (is_due_at old.peers peer ≡ true)
    × ((new ≡ after old (NotCalled peer))
    ⊎ ((key : ℕ) × MayCome old (Called key peer) × (new ≡ after old (Called key peer))))

-- so many are called, one after another
abbrev pub CallsSome : ℕ → (old new : ContactsValue) → Type 0
CallsSome zero old new = new ≡ old
CallsSome (suc n) old new = (mid : ContactsValue) × CallsSome n old mid × CallsOne mid new

-- those that are due are called, and then nobody is due
abbrev pub CallsAll : (old new : ContactsValue) → Type 0
CallsAll old new =
    ((n : ℕ) × CallsSome n old new) × ((peer : ℕ) → is_due_at new.peers peer ≡ false)

-- the oldest stranger is closed, if there is one
abbrev pub DropsFirst : Option ℕ → (old new : ContactsValue) → Type 0
DropsFirst None old new = new ≡ old
DropsFirst (Some key) old new = LetsGo key old new

abbrev pub DropsStranger : (old new : ContactsValue) → Type 0
DropsStranger old new =
    (first : Option ℕ) × IsFirstStranger old.connections first × DropsFirst first old new

-- the oldest stranger is closed, if there are as many as there may be
abbrev pub MakesRoom : (old new : ContactsValue) → Type 0
MakesRoom old new = (first : Option ℕ) × IsToDrop old first × DropsFirst first old new

-- a connection that somebody began is kept under a key that is free, or is not
abbrev pub Keeps : (old new : ContactsValue) → Type 0
Keeps old new =
    (new ≡ old)
    ⊎ ((key : ℕ) × MayCome old (Accepted key) × (new ≡ after old (Accepted key)))

-- one that is kept awaits a session with this replica
abbrev pub Awaits : {W : Type 0} → AcceptorValue → (old new : ContactsValue)
    → Slab (Connection W) → Type 0
Awaits me old new slab =
    (new ≡ old)
    ⊎ ((key : ℕ) × (new ≡ after old (Accepted key))
    × IsSomeAnd (get slab key) (λ c. c.link.acceptor ≡ Some me))

-- After `came` connections that others began a transport was asked once more and had none, or as
-- many as may be were accepted. `before` and `after`: how often it was asked.
abbrev pub AsksFor : (came most before after : ℕ) → Type 0
AsksFor came most before after =
    (after ≡ before + came + 1) ⊎ ((came ≡ most) × (after ≡ before + came))

-- so many connections that others began are kept or not, each once there is room for it
abbrev pub Admits : ℕ → (old new : ContactsValue) → Type 0
Admits zero old new = new ≡ old
Admits (suc n) old new =
    (mid : ContactsValue) × Admits n old mid
    × ((roomy : ContactsValue) × MakesRoom mid roomy × Keeps roomy new)

-- the oldest stranger is closed, or nobody
abbrev pub DropsSome : (old new : ContactsValue) → Type 0
DropsSome old new = (new ≡ old) ⊎ DropsStranger old new

-- One wait: first all that are due are called; then a poll is noted, at which a period was over or
-- not, and stale connections are closed; then others are admitted; at last a stranger may be
-- closed, if the system lacks resources.
abbrev pub WaitsOnce : (ran_out : Bool) → (old new : ContactsValue) → Type 0
WaitsOnce ran_out old new =
    (called : ContactsValue) × (passed : ContactsValue) × (admitted : ContactsValue)
    × CallsAll old called × LetsStaleGo (after called (Polled ran_out)) passed
    × ((n : ℕ) × Admits n passed admitted)
    × DropsSome admitted new

-- the peer of a connection is known once its Hello was received
abbrev pub learned_name : ℕ → Option ReplicaName → ContactsValue → ContactsValue
learned_name key None s = s
learned_name key (Some name) s = after s (Greeted key name)

abbrev pub learned : {W : Type 0} → ℕ → Option (Connection W) → ContactsValue → ContactsValue
learned key None s = s
learned key (Some c) s = learned_name key (greeted_by c.link.session) s

-- a Hello was received on the connection with this key, as far as is known
abbrev pub has_met : ℕ → ContactsValue → Bool
has_met key s = is_slot has_greeted (contact_at s.connections key)

-- on how many connections the peer has sent Hello, once the name of one is known
abbrev pub begun_by : ℕ → Option ReplicaName → ContactsValue → ℕ → ℕ
begun_by key None s begun = begun
begun_by key (Some name) s begun = if has_met key s then begun else saturated (begun + 1)

abbrev pub connections_begun : {W : Type 0} → ℕ → Option (Connection W) → ContactsValue → ℕ → ℕ
connections_begun key None s begun = begun
connections_begun key (Some c) s begun = begun_by key (greeted_by c.link.session) s begun

-- how many of these have broken, after one more connection broke
abbrev pub broken_after : ℕ → ContactsValue → ℕ → ℕ
broken_after key s broken = if has_met key s then saturated (broken + 1) else broken

-- it is noted that octets were received, if they were
abbrev pub heard_at : ℕ → (has_heard : Bool) → ContactsValue → ContactsValue
heard_at key false s = s
heard_at key true s = after s (Heard key)

-- what is known of a connection after its last turn; `has_heard`: octets were received in it
abbrev pub known_after : {W : Type 0} → ℕ → (has_heard : Bool) → Option (Connection W)
    → ContactsValue → ContactsValue
known_after key has_heard connection s = learned key connection (heard_at key has_heard s)

-- the peer sends no more on a connection, or has begun another
abbrev pub is_abandoned : {W : Type 0} → Option Contact → Option (Connection W) → Bool
is_abandoned contact connection = sends_no_more connection || is_slot (λ c. c.is_replaced) contact

-- it is noted that a connection broke, if it is abandoned
abbrev pub broken_if : {W : Type 0} → (abandoned : Bool) → ℕ → Option (Connection W) → ContactsValue
    → ContactsValue
broken_if true key connection s = after s (Broke key (was_there cause.End connection))
broken_if false key connection s = s

-- What follows a turn of a connection: the end of its link is noted; a broken one is closed; any
-- other is closed if it is abandoned, and else stays.
abbrev pub SettlesAs : {W : Type 0} → ℕ → Turn → Option (Connection W) → (old new : ContactsValue)
    → Type 0
SettlesAs key turn.Progress connection old new =
    new ≡ broken_if (is_abandoned (contact_at old.connections key) connection) key connection old
SettlesAs key turn.Idle connection old new =
    new ≡ broken_if (is_abandoned (contact_at old.connections key) connection) key connection old
SettlesAs key turn.Ended connection old new = new ≡ after old (Ended key)
SettlesAs key (turn.Broken cause) connection old new =
    new ≡ after old (Broke key (was_there cause connection))
SettlesAs key turn.Failed connection old new = ⊥

-- the session of a connection to a peer comes back to that peer, at its greeting
abbrev pub with_session_of : Option ℕ → Option SessionValue → List (Option SessionValue)
    → List (Option SessionValue)
with_session_of None session sessions = sessions
with_session_of (Some peer) None sessions = sessions
with_session_of (Some peer) (Some s) sessions = slice_set sessions peer (Some (broken s))

abbrev pub with_session_back : {W : Type 0} → Option Contact → Option (Connection W)
    → List (Option SessionValue) → List (Option SessionValue)
with_session_back None connection sessions = sessions
with_session_back (Some contact) None sessions = sessions
with_session_back (Some contact) (Some c) sessions =
    with_session_of contact.peer c.link.session sessions

-- the session comes back of a connection that goes, and no other
abbrev pub sessions_if : {W : Type 0} → (goes : Bool) → Option Contact → Option (Connection W)
    → List (Option SessionValue) → List (Option SessionValue)
sessions_if true contact connection sessions = with_session_back contact connection sessions
sessions_if false contact connection sessions = sessions
