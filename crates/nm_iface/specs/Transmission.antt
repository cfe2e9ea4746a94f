-- How long a packet's transmission takes.
use Rattle.std.specs.Prelude.{ℕ, ◌+◌, ◌-◌, ◌*◌, ◌/◌, ◌^◌, max}

-- whole numbers divided, rounded up
abbrev pub divided_up : ℕ → ℕ → ℕ
divided_up a b = (a + (b - 1)) / b

-- in nanoseconds, at a rate in bits per second, of so many octets: at least one
abbrev pub transmission_time : ℕ → ℕ → ℕ
transmission_time rate octets = max 1 (divided_up (octets * 8 * 10 ^ 9) rate)
