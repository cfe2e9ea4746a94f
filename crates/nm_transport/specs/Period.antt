-- When a period is over, by two readings of the clock.
use Rattle.std.specs.Prelude.{◌≡◌, ℕ, ◌*◌, ◌-◌, ◌==◌, Bool, if◌then◌else◌, Option, Some, None}
use Rattle.std.specs.Time.{instant_nanos}
use Rattle.std.specs.declared.time.Instant.{Instant}
use Rattle.nm_transport.specs.declared.limits.TheConstants.{PERIOD_MILLISECONDS}

-- how much is left now of a period that began at `begun`, in nanoseconds
abbrev pub nanoseconds_left : (begun now : Instant) → ℕ
nanoseconds_left begun now =
    PERIOD_MILLISECONDS * 1000000 - (instant_nanos now - instant_nanos begun)

-- the same by two readings of the clock: all of it if one could not be had
abbrev pub left_by : (begun now : Option Instant) → ℕ
left_by (Some begun) (Some now) = nanoseconds_left begun now
left_by (Some begun) None = PERIOD_MILLISECONDS * 1000000
left_by None now = PERIOD_MILLISECONDS * 1000000

-- a period is over when nothing is left of it; if one of the readings could not be had, once a wait
-- for its rest found nothing
abbrev pub is_over : (begun now : Option Instant) → (was_waited_for : Bool) → Bool
is_over (Some begun) (Some now) was_waited_for = nanoseconds_left begun now == 0
is_over (Some begun) None was_waited_for = was_waited_for
is_over None now was_waited_for = was_waited_for

-- the begin of the current period after that: the next period begins when this one is over; a
-- period without a known begin begins now
abbrev pub begun_after : (begun now : Option Instant) → (ends : Bool) → Option Instant
begun_after (Some begun) now ends = if ends then now else Some begun
begun_after None now ends = now

-- the clock is read once, or can't be; the reading decides whether the period ends
abbrev pub ReadsClock : (begun : Option Instant) → (was_waited_for : Bool)
    → (after : Option Instant) → (ends : Bool) → Type 0
ReadsClock begun was_waited_for after ends =
    (now : Option Instant) × (ends ≡ is_over begun now was_waited_for)
    × (after ≡ begun_after begun now ends)
