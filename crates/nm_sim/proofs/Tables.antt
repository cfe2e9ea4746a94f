-- Tables that grow at their end, or change at a number, and who is a member of them.
use Rattle.std.proofs.Common.{◌≡◌, ◌≢◌, ℕ, zero, suc, ◌<◌, Bool, true, false, List, [], ◌∷◌, ◌++◌, length, Option, Some, None, slice_get, slice_set, refl, sym, ◌∙◌, subst, ⊎_elim, arith}
use Rattle.std.proofs.lemmas.Option.{none-some, slice_get_cases, slice_get_within}
use Rattle.nm_sim.specs.Tables.{AllAt, AllHere, IsMember, IsThere}

same_some : {X : Type 0} (x y : X) → Some x ≡ Some y → x ≡ y
same_some x y e = cc

pub all_pushed : {X : Type 0} (P : ℕ → X → Type 0) (xs : List X) (x : X) → AllAt P xs → P (length xs) x → AllAt P (xs ++ x ∷ [])
all_pushed P [] x h p zero y e = subst (P 0) (same_some x y e) p
all_pushed P [] x h p (suc i) y e = absurd cc
all_pushed P (z ∷ xs) x h p zero y e = h zero y e
all_pushed P (z ∷ xs) x h p (suc i) y e = all_pushed (λ j. P (suc j)) xs x (λ j. h (suc j)) p i y e

pub all_set : {X : Type 0} (P : ℕ → X → Type 0) (xs : List X) (k : ℕ) (x : X)
    → ((i : ℕ) (y : X) → i ≢ k → slice_get xs i ≡ Some y → P i y) → P k x → AllAt P (slice_set xs k x)
all_set P [] k x h p i y e = absurd cc
all_set P (z ∷ xs) zero x h p zero y e = subst (P 0) (same_some x y e) p
all_set P (z ∷ xs) zero x h p (suc i) y e = h (suc i) y (λ f. absurd (omega (arith, f))) e
all_set P (z ∷ xs) (suc k) x h p zero y e = h zero y (λ f. absurd (omega (arith, f))) e
all_set P (z ∷ xs) (suc k) x h p (suc i) y e = all_set (λ j. P (suc j)) xs k x (λ j w f g. h (suc j) w (λ q. f (omega (arith, q))) g) p i y e

-- what is there is here
pub found : {X : Type 0} (P : X → Type 0) (b : Bool) (o : Option X) (x : X) → IsThere b P o → o ≡ Some x → (b ≡ true) × P x
found P true None x h e = absurd h
found P true (Some y) x h e = (refl, subst P (same_some y x e) h)
found P false o x h e = absurd (none-some x (sym h ∙ e))

-- what is not there is not here
pub not_there : {X : Type 0} (P : X → Type 0) (b : Bool) (o : Option X) → IsThere b P o → o ≡ None → b ≡ false
not_there P true None h e = absurd h
not_there P true (Some y) h e = absurd (none-some y (sym e))
not_there P false o h e = refl

-- what is put where something is here
pub there : {X : Type 0} (P : X → Type 0) (b : Bool) (x : X) → b ≡ true → P x → IsThere b P (Some x)
there P true x e p = p
there P false x e p = absurd cc

-- the same of what follows from P
pub weaker : {X : Type 0} (P Q : X → Type 0) (b : Bool) (o : Option X) → ((x : X) → P x → Q x) → IsThere b P o → IsThere b Q o
weaker P Q true None f h = h
weaker P Q true (Some x) f h = f x h
weaker P Q false o f h = h

is_member : {X : Type 0} (P : X → Type 0) (b : Bool) (o : Option X) → b ≡ true → IsThere b P o → IsMember (Some o)
is_member P true None e h = absurd h
is_member P true (Some x) e h = tt
is_member P false o e h = absurd cc

-- the member that is there
pub member_at : {X : Type 0} (o : Option (Option X)) → IsMember o → (x : X) × (o ≡ Some (Some x))
member_at None h = absurd h
member_at (Some None) h = absurd h
member_at (Some (Some x)) h = (x, refl)

pub member_within : {X : Type 0} (xs : List (Option X)) (i : ℕ) → IsMember (slice_get xs i) → i < length xs
member_within xs i h = let x = member_at (slice_get xs i) h in slice_get_within xs i (Some x.0) x.1

-- the member of a number is here, and P holds of it
pub at_there : {X : Type 0} (here : ℕ → Bool) (P : ℕ → X → Type 0) (xs : List (Option X)) → AllHere here P xs
    → (i : ℕ) (x : X) → slice_get xs i ≡ Some (Some x) → (here i ≡ true) × P i x
at_there here P xs all i x e = found (P i) (here i) (Some x) x (all i (Some x) e) refl

-- what is here has a member
pub each_there : {X : Type 0} (here : ℕ → Bool) (P : ℕ → X → Type 0) (xs : List (Option X)) → AllHere here P xs
    → (i : ℕ) → i < length xs → here i ≡ true → IsMember (slice_get xs i)
each_there here P xs all i within e = ⊎_elim
    (λ h. subst IsMember (sym h.2) (is_member (P i) (here i) h.0 e (all i h.0 h.2)))
    (λ h. absurd (omega (arith, within, h.0)))
    ((slice_get_cases xs i).1)

-- a member changes where something is here, and the others stay as they are
pub here_set : {X : Type 0} (here : ℕ → Bool) (P Q : ℕ → X → Type 0) (xs : List (Option X)) (k : ℕ) (x : X) → AllHere here P xs
    → ((i : ℕ) (y : X) → i ≢ k → P i y → Q i y) → here k ≡ true → Q k x → AllHere here Q (slice_set xs k (Some x))
here_set here P Q xs k x all f e q = all_set (λ i o. IsThere (here i) (Q i) o) xs k (Some x)
    (λ i o h g. weaker (P i) (Q i) (here i) o (λ y p. f i y h p) (all i o g))
    (there (Q k) (here k) x e q)

-- what is not some member is none
pub not_member : {X : Type 0} (o : Option X) → ((x : X) → o ≢ Some x) → IsMember (Some o) → ⊥
not_member None h m = m
not_member (Some x) h m = h x refl
