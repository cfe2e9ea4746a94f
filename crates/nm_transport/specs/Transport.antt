-- What contracts see of a transport and of its connections.
use Rattle.std.specs.Prelude.{◌≡◌, ◌⊎◌, ℕ, ◌+◌, ◌-◌, ◌^◌, ◌==◌, Bool, true, false, List, [], Option, None, if◌then◌else◌, slice_get, Some}
use Rattle.mio.specs.Event.{event_token}
use Rattle.mio.specs.declared.event.event.Event.{Event}
use Rattle.std.specs.declared.io.ErrorKind.{ErrorKind}
use Rattle.std.specs.declared.io.ErrorKind.TheVariants.{WouldBlock, Interrupted, NotConnected}
use Rattle.std.specs.declared.net.socket_addr.SocketAddr.{SocketAddr}
use Rattle.std.specs.declared.time.Instant.{Instant}
use Rattle.nm_base.specs.Wire.{WireSeen}
use Rattle.nm_transport.specs.Asked.{Asked}
use Rattle.nm_transport.specs.declared.tcp_wire.Called.{Called}
use Rattle.nm_transport.specs.declared.transport.Waited.{Waited}
use Rattle.nm_transport.specs.declared.transport.Waited.TheVariants.{Ready, RanOut, Fault}

-- what contracts see of a connection over TCP: what moved on it, and the peer to which it was
-- begun, with its address, if it was begun here
pub record TcpSeen : Type 0 where
  pub wire : WireSeen
  pub called : Option Called

-- What contracts see of a transport over TCP: where it listens, and its peers, by their numbers;
-- whether somebody may have called; whether the system lacked resources for one more connection
-- when it was asked last; whether the last wait was asked to wait; what it reported; how many waits
-- ran out; when the current period began, if the clock could be read then; and how often it was
-- called.
pub record TcpTransportSeen : Type 0 where
  pub at : SocketAddr
  pub peers : List SocketAddr
  pub is_called : Bool
  pub is_short : Bool
  pub was_to_wait : Bool
  pub reported : List Event
  pub elapsed : ℕ
  pub begun : Option Instant
  pub asked : Asked

-- the token of what a poll reported
abbrev pub token_of : Event → ℕ
token_of event = (event_token event).0

-- a report of the listener, which has the greatest token
abbrev pub is_listener : Event → Bool
is_listener event = token_of event == 2 ^ 64 - 1

-- the peer with this number was called, at its address
abbrev pub IsCallTo : (peers : List SocketAddr) → (peer : ℕ) → Called → Type 0
IsCallTo peers peer called =
    (called.peer ≡ peer) × (slice_get peers peer ≡ Some called.address)

-- a connection's own end has the address that was called
abbrev pub MeetsItself : (called : Option Called) → (own : Option SocketAddr) → Type 0
MeetsItself None own = ⊥
MeetsItself (Some called) None = ⊥
MeetsItself (Some called) (Some own) = called.address ≡ own

-- after an error of this kind the call is made again once the connection is ready: it would block,
-- was interrupted, or the connection is not established yet
abbrev pub IsToWait : ErrorKind → Type 0
IsToWait kind = (kind ≡ WouldBlock) ⊎ (kind ≡ Interrupted) ⊎ (kind ≡ NotConnected)

-- nothing has moved on the wire, and it has neither ended nor failed
abbrev pub IsFresh : WireSeen → Type 0
IsFresh wire =
    (wire.given ≡ []) × (wire.taken ≡ []) × (wire.ends ≡ 0) × (wire.failures ≡ 0)

-- a period was over when a wait ended, or it could not wait
abbrev pub has_run_out : Waited → Bool
has_run_out Ready = false
has_run_out RanOut = true
has_run_out Fault = true

-- the answer of a wait, by whether a period was over and whether it could wait
abbrev pub waited_as : (is_over has_waited : Bool) → Waited
waited_as true has_waited = RanOut
waited_as false true = Ready
waited_as false false = Fault

-- how many waits have run out, after one more; `ran_out`: it did, too
abbrev pub elapsed_after : (before : ℕ) → (ran_out : Bool) → ℕ
elapsed_after before ran_out = if ran_out then before + 1 else before
