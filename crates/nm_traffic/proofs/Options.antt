-- What is there, of what may be there.
use Rattle.std.proofs.Common.{◌≡◌, All, ℕ, zero, suc, Bool, true, false, List, [], ◌∷◌, Option, Some, None, refl, subst, arith}
use Rattle.std.specs.Prelude.{if◌then◌else◌, slice_get}
use Rattle.std.specs.Option.{option_and_then}

pub none_or : {X : Type 0} (o : Option X) → ((x : X) → o ≡ Some x → ⊥) → o ≡ None
none_or None h = refl
none_or (Some x) h = absurd (h x refl)

pub same_some : {X : Type 0} (x y : X) → Some x ≡ Some y → x ≡ y
same_some x y e = cc

-- what is kept by a test
pub kept : {X : Type 0} (b : Bool) (o : Option X) (x : X) → (if b then o else None) ≡ Some x → (b ≡ true) × (o ≡ Some x)
kept true o x e = (refl, e)
kept false o x e = cc

pub bound-some : {X Y : Type 0} (f : X → Option Y) (o : Option X) (y : Y) → option_and_then f o ≡ Some y → (x : X) × (o ≡ Some x) × (f x ≡ Some y)
bound-some f None y e = cc
bound-some f (Some x) y e = (x, refl, e)

-- an element has what all have
pub element-has : {X : Type 0} (P : X → Type 0) (xs : List X) (j : ℕ) (x : X) → All P xs → slice_get xs j ≡ Some x → P x
element-has P [] j x a e = cc
element-has P (y ∷ ys) zero x a e = subst P (same_some y x e) (a 0 y (omega arith))
element-has P (y ∷ ys) (suc j) x a e = element-has P ys j x (λ k d h. a (suc k) d (omega arith)) e
