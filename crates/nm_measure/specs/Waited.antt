-- How long packets, or octets, wait at an interface.
use Rattle.std.specs.Prelude.{ℕ, ◌+◌, ◌-◌, ◌*◌, ◌^◌, min}

-- For how many nanoseconds packets waited, all together, up to `now`: `waited` up to `since`, from
-- which on `waiting` wait. It stops at the greatest of its type.
abbrev pub waited_at : (waited waiting since now : ℕ) → ℕ
waited_at waited waiting since now = min (waited + waiting * (now - since)) (2 ^ 128 - 1)
