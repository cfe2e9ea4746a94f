-- A connection, and the peer to which it leads.
use Rattle.std.specs.Prelude.{ℕ, Bool, false, not, ◌&&◌, ◌||◌, Option, Some, None, is_some}
use Rattle.nm_frames.specs.declared.replica_name.ReplicaName.{ReplicaName}
use Rattle.nm_policy.specs.Lasting.{has_lasted, lasted_after}
use Rattle.nm_policy.specs.Names.{are_same}
use Rattle.nm_policy.specs.declared.contact.Contact.{Contact}
use Rattle.nm_policy.specs.declared.limits.TheConstants.{GREETING_PERIODS, HELLO_PERIODS, SILENCE_PERIODS}

-- a connection that the replica began, and one that somebody began
abbrev pub called_contact : (peer : ℕ) → (waits : Bool) → Contact
called_contact peer waits = record {
  peer = Some peer;
  name = None;
  came = 0;
  lasted = record { periods = 0 };
  silent = record { periods = 0 };
  waits = waits;
  is_replaced = false;
}

abbrev pub accepted_contact : (came : ℕ) → Contact
accepted_contact came = record {
  peer = None;
  name = None;
  came = came;
  lasted = record { periods = 0 };
  silent = record { periods = 0 };
  waits = false;
  is_replaced = false;
}

-- it is a stranger's: somebody else began it and has sent no Hello
abbrev pub is_stranger : Contact → Bool
is_stranger c = not (is_some c.peer) && not (is_some c.name)

-- its peer sent Hello
abbrev pub has_greeted : Contact → Bool
has_greeted c = is_some c.name

-- a caller began it that sent Hello and has begun no other since
abbrev pub is_guest : Contact → Bool
is_guest c = not (is_some c.peer) && is_some c.name && not c.is_replaced

-- the sender of the Hello, if there is one, has this name
abbrev pub is_said_by : ReplicaName → Option ReplicaName → Bool
is_said_by name None = false
is_said_by name (Some own) = are_same own name

-- the replica with this name began it
abbrev pub is_from : ReplicaName → Contact → Bool
is_from name c = not (is_some c.peer) && is_said_by name c.name

-- its Hello was not received in time
abbrev pub is_overdue : Contact → Bool
is_overdue c = not (is_some c.name) && has_lasted HELLO_PERIODS c.lasted.periods

-- the replica waits for its peer, and nothing was received for as long after its Hello
abbrev pub is_silent : Contact → Bool
is_silent c = is_some c.name && c.waits && has_lasted SILENCE_PERIODS c.silent.periods

-- it is closed, and begun again if the replica began it
abbrev pub is_stale : Contact → Bool
is_stale c = is_overdue c || is_silent c

-- a whole period is over since its Hello
abbrev pub has_settled : Contact → Bool
has_settled c = is_some c.name && has_lasted 1 c.lasted.periods

-- its octets count: its greeting is over
abbrev pub does_count : Contact → Bool
does_count c = is_some c.name && has_lasted GREETING_PERIODS c.lasted.periods

-- after a poll, at which a period was over or not
abbrev pub polled : (ran_out : Bool) → Contact → Contact
polled ran_out c = record c {
  lasted = record { periods = lasted_after c.lasted.periods ran_out };
  silent = record { periods = lasted_after c.silent.periods ran_out };
}

-- after octets were received
abbrev pub heard : Contact → Contact
heard c = record c { silent = record { periods = 0 } }

-- after its Hello: the sender is known, and the connection lasts from then on
abbrev pub met : ReplicaName → Contact → Contact
met name c = record c {
  name = Some name;
  lasted = record { periods = 0 };
  silent = record { periods = 0 };
}

-- after the replica with this name has begun another
abbrev pub replaced_by : ReplicaName → Contact → Contact
replaced_by name c = record c { is_replaced = c.is_replaced || is_from name c }
