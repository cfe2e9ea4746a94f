-- How serving ends because a connection broke.
use Rattle.std.specs.Prelude.{Bool, true, false, ◌||◌, Option, Some, None, is_some, Result, Ok, Err}
use Rattle.nm_engine.specs.declared.answer.Turn.{Turn}
use Rattle.nm_engine.specs.declared.answer.Turn.TheVariants as turn
use Rattle.nm_policy.specs.declared.contact.Contact.{Contact}
use Rattle.nm_replica.specs.Served.{break_served}
use Rattle.nm_replica.specs.declared.connection.Connection.{Connection}
use Rattle.nm_replica.specs.declared.served.Served.{Served}
use Rattle.nm_replica.specs.declared.served.Served.TheVariants.{Net}

-- the replica began the connection
abbrev pub is_called : Option Contact → Bool
is_called None = false
is_called (Some c) = is_some c.peer

-- the peer's Hello was taken, or the replica sends the first one
abbrev pub has_session : {W : Type 0} → Option (Connection W) → Bool
has_session None = false
has_session (Some c) = is_some c.link.session

-- the other end of it is a peer
abbrev pub is_peer : {W : Type 0} → Option Contact → Option (Connection W) → Bool
is_peer contact connection = is_called contact || has_session connection

-- the fault of a result, if it is one
abbrev pub fault_in : {T E : Type 0} → Result T E → Option E
fault_in (Ok x) = None
fault_in (Err e) = Some e

-- how serving ends by the last turn of a connection, if it does
abbrev pub turn_served : Turn → (is_peer : Bool) → Option Served
turn_served turn.Progress is_peer = None
turn_served turn.Idle is_peer = None
turn_served turn.Ended is_peer = None
turn_served (turn.Broken cause) is_peer = break_served cause is_peer
turn_served turn.Failed is_peer = Some Net

-- a connection is taken out after its last turn
abbrev pub goes_after : Turn → (is_abandoned : Bool) → Bool
goes_after turn.Progress is_abandoned = is_abandoned
goes_after turn.Idle is_abandoned = is_abandoned
goes_after turn.Ended is_abandoned = true
goes_after (turn.Broken cause) is_abandoned = true
goes_after turn.Failed is_abandoned = false
