-- What contracts see of a port.
use Rattle.std.specs.Prelude.{◌≡◌, ℕ, ◌+◌, ltb, nat_le, max, Bool, true, ◌&&◌, List, slice_get}
use Rattle.std.specs.Prelude.{length, sum_by, Option, Some, None}
use Rattle.nm_base.specs.Count.{saturated}
use Rattle.nm_model.specs.Port.{Busy, Port, is_refused}
use Rattle.nm_iface.specs.Transmission.{transmission_time}

-- how much may wait: packets, and octets if these are limited too
pub record QueueLimit : Type 0 where
  pub packets : ℕ
  pub octets : Option ℕ

pub record PortValue : Type 0 where
  -- what may wait, bits per second, nanoseconds
  pub limit : QueueLimit
  pub rate : ℕ
  pub delay : ℕ
  -- idle, or busy until a time with packets that wait; how many packets were dropped
  pub busy : Option (Busy (List ℕ))
  pub dropped : ℕ
  -- for how many more packets there is memory
  pub room : ℕ
  -- whether what it transmits is recorded
  pub recorded : Bool

abbrev pub is_within : Option ℕ → ℕ → Bool
is_within None octets = true
is_within (Some most) octets = nat_le octets most

-- there is room for a packet behind those that wait: fewer packets wait than may wait, and so many
-- octets may wait as theirs and its own
abbrev pub has_room : QueueLimit → List (List ℕ) → List ℕ → Bool
has_room limit waiting packet =
    ltb (length waiting) limit.packets
    && is_within limit.octets (sum_by length waiting + length packet)

-- how long a packet's transmission takes: a packet has at least one octet
abbrev pub takes : ℕ → List ℕ → ℕ
takes rate packet = transmission_time rate (max 1 (length packet))

-- the port after, with memory for so many packets
abbrev pub with_port : PortValue → Port (List ℕ) → ℕ → PortValue
with_port p after room = record p {
  busy = after.busy;
  dropped = saturated after.dropped;
  room = room;
}

-- port i of these would drop the packet now: it is busy, and there is no room behind it
abbrev pub IsRefusedAt : List (Option PortValue) → ℕ → List ℕ → Type 0
IsRefusedAt ports i packet = (p : PortValue) × (slice_get ports i ≡ Some (Some p))
    × (is_refused (has_room p.limit) packet p.busy ≡ true)
