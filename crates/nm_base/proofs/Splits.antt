-- Texts that an octet splits.
use Rattle.std.proofs.Common.{◌≡◌, ℕ, ◌<◌, ◌^◌, false, List, [], ◌∷◌, ◌++◌, decimal, refl, eq-eqb}
use Rattle.std.specs.Bool.{◌==◌}
use Rattle.std.specs.Int.{IsInRange}
use Rattle.std.proofs.lemmas.Fmt.{decimal_is_IsNumeral}
use Rattle.std.proofs.lemmas.Str.Parse.{digit_at}
use Rattle.std.proofs.lemmas.List.Elements.{All-head, All-tail, All-from_get_or}
use Rattle.nm_base.specs.Text.{HasNo}

-- this octet is not that one
abbrev pub IsNot : ℕ → ℕ → Type 0
IsNot octet b = (b == octet) ≡ false

-- such a text has the octet
pub has_it : (c : ℕ) (a x : List ℕ) → HasNo c (a ++ c ∷ x) → ⊥
has_it c [] x none = let one = All-head (IsNot c) c x none in let same = eq-eqb c c refl in absurd (cc)
has_it c (d ∷ a) x none = has_it c a x (All-tail (IsNot c) d (a ++ c ∷ x) none)

-- nor is it empty
pub not_empty : (a : List ℕ) (c : ℕ) (x : List ℕ) → a ++ c ∷ x ≡ [] → ⊥
not_empty [] c x e = absurd (cc)
not_empty (d ∷ a) c x e = absurd (cc)

-- the octet splits a text in one way
pub one_split : (c : ℕ) (a b x y : List ℕ) → HasNo c a → HasNo c b → a ++ c ∷ x ≡ b ++ c ∷ y → (a ≡ b) × (x ≡ y)
one_split c [] [] x y p q e = (refl, cc)
one_split c [] (d ∷ b) x y p q e = let one = All-head (IsNot c) d b q in let same = eq-eqb c c refl in absurd (cc)
one_split c (d ∷ a) [] x y p q e = let one = All-head (IsNot c) d a p in let same = eq-eqb c c refl in absurd (cc)
one_split c (d ∷ a) (f ∷ b) x y p q e =
    let more = one_split c a b x y (All-tail (IsNot c) d a p) (All-tail (IsNot c) f b q) cc in (cc, more.1)

-- the digits of a number are not the octet
pub no_digit : (c n : ℕ) → n < 2 ^ 64 → ((d : ℕ) → IsInRange 48 57 d → IsNot c d) → HasNo c (decimal n)
no_digit c n fits other = All-from_get_or (IsNot c) (decimal n) 0 (λ i h. other _ (digit_at (decimal n) i (decimal_is_IsNumeral n fits).0.1 h))
