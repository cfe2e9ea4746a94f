-- The first thing that is in a list twice.
use Rattle.std.specs.Prelude.{◌≡◌, ℕ, ◌+◌, Bool, true, false, ◌&&◌, nat_eq, List, [], take}
use Rattle.std.specs.Prelude.{Option, Some, None}
use Rattle.nm_topology.specs.Names.{repeats}
use Rattle.nm_check.specs.declared.doubles.Double.{Double}

-- nothing is in the list twice; or something is, and nothing is before the second place, while the
-- front that ends there has it twice
abbrev pub IsFirstDouble : {X : Type 0} → (X → X → Bool) → List X → Option Double → Type 0
IsFirstDouble same xs None = repeats same [] xs ≡ false
IsFirstDouble same xs (Some d) =
    (repeats same [] (take d.second xs) ≡ false) × (repeats same [] (take (d.second + 1) xs) ≡ true)

-- the node and the prefix of two routes are the same
abbrev pub same_key : ℕ × ℕ × ℕ → ℕ × ℕ × ℕ → Bool
same_key x y = (nat_eq x.0 y.0 && nat_eq x.1 y.1) && nat_eq x.2 y.2
