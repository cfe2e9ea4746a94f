-- How long something has lasted, in periods.
use Rattle.std.specs.Prelude.{ℕ, ◌+◌, Bool, nat_le, if◌then◌else◌}
use Rattle.nm_base.specs.Count.{saturated}

-- for how many periods something has lasted, after one more poll; `ran_out`: a period was over
abbrev pub lasted_after : (before : ℕ) → (ran_out : Bool) → ℕ
lasted_after before ran_out = if ran_out then saturated (before + 1) else before

-- whether it has lasted for so many
abbrev pub has_lasted : (periods lasted : ℕ) → Bool
has_lasted periods lasted = nat_le periods lasted
