-- Which waits spin, which is to look again and again, before they sleep.
use Rattle.std.specs.Prelude.{ℕ, ◌*◌, ◌-◌, min, Bool, true, false}
use Rattle.nm_transport.specs.declared.limits.TheConstants.{MAX_PAUSE_WAITS}

-- how many waits sleep at once before the next one that spins, and how many will after the next one
-- that spins in vain
pub record SpinningSeen : Type 0 where
  pub left : ℕ
  pub pause : ℕ

-- the next wait spins, and if it does so in vain, one wait sleeps at once
abbrev pub first_spinning : SpinningSeen
first_spinning = record { left = 0; pause = 1 }

-- after a wait that slept at once
abbrev pub after_sleep : SpinningSeen → SpinningSeen
after_sleep s = record s { left = s.left - 1 }

-- After a wait that spun: if it found something, the next one spins, too; else as many waits sleep
-- at once as are due, and twice as many after the next one in vain (binary exponential backoff).
abbrev pub after_spin : (has_found : Bool) → SpinningSeen → SpinningSeen
after_spin true s = first_spinning
after_spin false s = record { left = s.pause; pause = min (2 * s.pause) MAX_PAUSE_WAITS }
