-- Of which interfaces records are kept.
use Rattle.std.specs.Prelude.{ℕ, ◌==◌, Bool, true, false}
use Rattle.nm_base.specs.declared.wanted.Wanted.{Wanted}
use Rattle.nm_base.specs.declared.wanted.Wanted.TheVariants.{All, Nothing, One}

-- whether those of interface i are
abbrev pub is_wanted : Wanted → ℕ → Bool
is_wanted All i = true
is_wanted Nothing i = false
is_wanted (One j) i = i == j
