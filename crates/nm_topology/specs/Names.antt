-- Names of which no two are the same, and doubles among other things.
use Rattle.nm_topology.specs.declared.fault.Refusal.{Refusal}
use Rattle.nm_topology.specs.declared.fault.Refusal.TheVariants.{DoubleName}
use Rattle.std.specs.List.{list_any}
use Rattle.std.specs.Prelude.{ℕ, Bool, false, ◌||◌, if◌then◌else◌, List, [], ◌∷◌, ◌++◌, Result, Ok}
use Rattle.std.specs.Prelude.{Err}
use Rattle.std.specs.Str.{bytes_eq}

-- an element equals one before it, or one of those seen
abbrev pub repeats : {X : Type 0} → (X → X → Bool) → List X → List X → Bool
repeats same seen [] = false
repeats same seen (x ∷ xs) = list_any (same x) seen || repeats same (seen ++ x ∷ []) xs

abbrev pub has_double : {X : Type 0} → (X → X → Bool) → List X → Bool
has_double same xs = repeats same [] xs

-- names of which no two are the same
abbrev pub distinct_names : List (List ℕ) → Result (List (List ℕ)) Refusal
distinct_names names = if has_double bytes_eq names then Err DoubleName else Ok names
