-- Texts that are split at an octet.
use Rattle.std.specs.Prelude.{◌≡◌, ℕ, ◌==◌, false, List}
use Rattle.std.specs.List.{All, slice_split}

-- no octet of the text has this value
abbrev pub HasNo : ℕ → List ℕ → Type 0
HasNo octet text = All (λ b. (b == octet) ≡ false) text

-- the parts of a text before, between and behind its octets of this value
abbrev pub parts_at : ℕ → List ℕ → List (List ℕ)
parts_at octet text = slice_split (λ b. b == octet) text
