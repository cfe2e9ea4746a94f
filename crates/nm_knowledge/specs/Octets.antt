-- When two packets are the same.
use Rattle.std.specs.Prelude.{ℕ, Bool, List, nat_eq}
use Rattle.std.specs.Cmp.Lexicographic.{pointwise}

-- as many octets, and each equal
abbrev pub same_octets : List ℕ → List ℕ → Bool
same_octets = pointwise nat_eq
