-- Tables: lists read by number. A part of a network has the members of its own nodes alone.
use Rattle.std.specs.Prelude.{◌≡◌, ℕ, Bool, true, false, List, Option, Some, None, slice_get}
use Rattle.std.specs.Option.{IfSome}

-- P holds of each number and its member
abbrev pub AllAt : {X : Type 0} → (ℕ → X → Type 0) → List X → Type 0
AllAt {X} P xs = (i : ℕ) (x : X) → slice_get xs i ≡ Some x → P i x

-- what is here is there, and P holds of it
abbrev pub IsThere : {X : Type 0} → Bool → (X → Type 0) → Option X → Type 0
IsThere true P None = ⊥
IsThere true P (Some x) = P x
IsThere false P o = o ≡ None

-- exactly the members that are here are there, and P holds of each number and its member
abbrev pub AllHere : {X : Type 0} → (ℕ → Bool) → (ℕ → X → Type 0) → List (Option X) → Type 0
AllHere here P xs = AllAt (λ i o. IsThere (here i) (P i) o) xs

-- P holds of each number and its member, if it has one
abbrev pub AllSome : {X : Type 0} → (ℕ → X → Type 0) → List (Option X) → Type 0
AllSome P xs = AllAt (λ i o. IfSome o (P i)) xs

-- a table has a member there
abbrev pub IsMember : {X : Type 0} → Option (Option X) → Type 0
IsMember None = ⊥
IsMember (Some None) = ⊥
IsMember (Some (Some x)) = Unit {0}
