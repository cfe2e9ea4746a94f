-- Rates of delivery.
use Rattle.std.specs.Prelude.{ℕ, ◌-◌, ◌*◌, ◌/◌, Option, None, Some}
use Rattle.nm_base.specs.Count.{saturated}

-- the rate of so many octets, in bits per second, from one time to another, in nanoseconds, rounded
-- down; 0 where that is no time
abbrev pub rate_between : (octets : ℕ) → Option ℕ → (until : ℕ) → ℕ
rate_between octets None until = 0
rate_between octets (Some from) until = saturated (octets * 8 * 1000000000 / (until - from))
