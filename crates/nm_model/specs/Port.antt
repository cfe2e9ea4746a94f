-- Ports: an interface transmits one packet at a time, and further ones wait behind it or are
-- dropped (drop-tail).
use Rattle.std.specs.Prelude.{ℕ, ◌+◌, Bool, false, if◌then◌else◌, not, List, [], ◌∷◌, ◌++◌, Option, Some, None}

-- when the transmission under way completes, and the packets that wait behind it, front first
pub record Busy (P : Type 0) : Type 0 where
  pub completes : ℕ
  pub waiting : List P

-- a port is idle, or busy; and so many packets were dropped at it
pub record Port (P : Type 0) : Type 0 where
  pub busy : Option (Busy P)
  pub dropped : ℕ

abbrev pub idle_port : {P : Type 0} → Port P
idle_port = record { busy = None; dropped = 0 }

-- each of these gives the port after, and the packet whose transmission starts, if one does

-- at this time a transmission starts
abbrev pub transmitting : {P : Type 0} → (P → ℕ) → ℕ → ℕ → P → List P → Port P × Option P
transmitting tx now dropped x waiting = (
  record {
    busy = Some (record { completes = now + tx x; waiting = waiting });
    dropped = dropped;
  },
  Some x,
)

-- a packet is offered: to an idle port it starts; at a busy one it waits if there is room, and else
-- it is dropped
abbrev pub offered : {P : Type 0} → (List P → P → Bool) → (P → ℕ) → ℕ → P → ℕ → Option (Busy P)
    → Port P × Option P
offered room tx now x dropped None = transmitting tx now dropped x []
offered room tx now x dropped (Some b) =
    if room b.waiting x then (
      record {
        busy = Some (record { completes = b.completes; waiting = b.waiting ++ x ∷ [] });
        dropped = dropped;
      },
      None,
    ) else (record { busy = Some b; dropped = dropped + 1 }, None)

-- the front of those that wait is next
abbrev pub next_transmitting : {P : Type 0} → (P → ℕ) → ℕ → ℕ → List P → Port P × Option P
next_transmitting tx now dropped [] = (record { busy = None; dropped = dropped }, None)
next_transmitting tx now dropped (x ∷ waiting) = transmitting tx now dropped x waiting

-- a transmission is complete
abbrev pub completed : {P : Type 0} → (P → ℕ) → ℕ → ℕ → Option (Busy P) → Port P × Option P
completed tx now dropped None = (record { busy = None; dropped = dropped }, None)
completed tx now dropped (Some b) = next_transmitting tx now dropped b.waiting

-- the time at which the transmission under way completes, or 0
abbrev pub busy_until : {P : Type 0} → Option (Busy P) → ℕ
busy_until None = 0
busy_until (Some b) = b.completes

-- what happens to a port, and when
pub data PortEvent (P : Type 0) : Type 0 where
  Offer : ℕ → P → PortEvent P
  Done : ℕ → PortEvent P

abbrev pub waiting_of : {P : Type 0} → Option (Busy P) → List P
waiting_of None = []
waiting_of (Some b) = b.waiting

abbrev pub option_list : {P : Type 0} → Option P → List P
option_list None = []
option_list (Some x) = x ∷ []

-- a busy port that has no room
abbrev pub is_refused : {P : Type 0} → (List P → P → Bool) → P → Option (Busy P) → Bool
is_refused room x None = false
is_refused room x (Some b) = not (room b.waiting x)

module _ {P : Type 0} (room : List P → P → Bool) (tx : P → ℕ) where
  abbrev pub port_turn : PortEvent P → Port P → Port P × Option P
  port_turn (Offer now x) w = offered room tx now x w.dropped w.busy
  port_turn (Done now) w = completed tx now w.dropped w.busy

  abbrev pub port_after : List (PortEvent P) → Port P → Port P
  port_after [] w = w
  port_after (e ∷ es) w = port_after es (port_turn e w).0

  -- the packets that began to be transmitted, in that order
  abbrev pub transmitted_by : List (PortEvent P) → Port P → List P
  transmitted_by [] w = []
  transmitted_by (e ∷ es) w = option_list (port_turn e w).1 ++ transmitted_by es (port_turn e w).0

  -- the packets that were offered and not dropped, in the order of their offers
  abbrev pub taken_by : List (PortEvent P) → Port P → List P
  taken_by [] w = []
  taken_by (Offer now x ∷ es) w =
      (if is_refused room x w.busy then [] else x ∷ []) ++ taken_by es (port_turn (Offer now x) w).0
  taken_by (Done now ∷ es) w = taken_by es (port_turn (Done now) w).0

  -- how many were dropped
  abbrev pub dropped_by : List (PortEvent P) → Port P → ℕ
  dropped_by [] w = 0
  dropped_by (Offer now x ∷ es) w =
      (if is_refused room x w.busy then 1 else 0) + dropped_by es (port_turn (Offer now x) w).0
  dropped_by (Done now ∷ es) w = dropped_by es (port_turn (Done now) w).0
