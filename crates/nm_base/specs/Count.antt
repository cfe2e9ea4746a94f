-- Counts.
use Rattle.std.specs.Prelude.{ℕ, ◌-◌, ◌^◌, min}

-- a count stops at the greatest that its 64 bits hold
abbrev pub saturated : ℕ → ℕ
saturated n = min n (2 ^ 64 - 1)
