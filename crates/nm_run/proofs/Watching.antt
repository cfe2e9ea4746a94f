-- The replicas of a run, kept and remembered in their order.
use Rattle.std.proofs.Common.{◌≡◌, ℕ, zero, suc, ◌+◌, ◌<◌, All, List, [], ◌∷◌, ◌++◌, length, map, get_or, None, Some, option_map, sym, ◌∙◌, ap, subst, arith}
use Rattle.std.specs.Prelude.{slice_get, slice_set}
use Rattle.std.proofs.lemmas.List.{append_assoc, length-map, map-append}
use Rattle.std.proofs.lemmas.Option.{get_or_from_slice_get, slice_get-get_or, slice_get-map}
use Rattle.nm_shared.proofs.Pools.{all_more}
use Rattle.nm_run.specs.Watching.{AreOwns, IsOwnAt, owns_of}
use Rattle.nm_run.specs.declared.jobs.Watched.{Watched}
use Rattle.nm_run.specs.declared.stations.Own.{Own}

-- one more
pub owns_more : {X : Type 0} (f : X → Own) (names : List (ℕ × ℕ)) (old new : List X) (x : X) → new ≡ old ++ x ∷ [] → IsOwnAt names (length old) (f x) → AreOwns names (map f old) → AreOwns names (map f new)
owns_more f names old new x last here before =
    subst (AreOwns names) (sym (ap (map f) last ∙ map-append f old (x ∷ [])))
    (all_more (IsOwnAt names) (map f old) (f x) before (subst (λ n. IsOwnAt names n (f x)) (sym (length-map old f)) here))

-- one more of some, before others
pub one_placed : {X Y : Type 0} (f : X → Y) (xs : List X) (x : X) (y : Y) (ys : List Y) → f x ≡ y → map f (xs ++ x ∷ []) ++ ys ≡ map f xs ++ y ∷ ys
one_placed f xs x y ys is = ap (λ l. l ++ ys) (map-append f xs (x ∷ [])) ∙ append_assoc (map f xs) (f x ∷ []) ys ∙ ap (λ z. map f xs ++ z ∷ ys) is

-- what is remembered at a place is of the replica with this number
pub own_there : (names : List (ℕ × ℕ)) (watched : List Watched) (n : ℕ) (w : Watched) → AreOwns names (owns_of watched) → n < length watched → w ≡ get_or watched n w → w.own.index ≡ n
own_there names watched n w are low is =
    (are n w.own (slice_get-map (λ x. x.own) watched n ∙ ap (option_map (λ x. x.own)) (slice_get-get_or watched n w low ∙ ap (λ x. Some x) (sym is)))).0

-- what holds of each member at its place holds of all
pub all_by_place : {A : Type 0} (P : A → Type 0) (xs : List A) → ((k : ℕ) (a : A) → slice_get xs k ≡ Some a → P a) → All P xs
all_by_place P xs at = λ k d low. at k (get_or xs k d) (slice_get-get_or xs k d low)

pub get_is_within : {A : Type 0} (xs : List A) (k : ℕ) (a : A) → slice_get xs k ≡ Some a → k < length xs
get_is_within [] k a e = absurd (let none : None ≡ Some a = e in cc)
get_is_within (x ∷ xs) zero a e = omega arith
get_is_within (x ∷ xs) (suc k) a e = let rest : k < length xs = get_is_within xs k a e in omega (arith, rest)

-- what holds of all holds of one that is there
pub all_at : {A : Type 0} (P : A → Type 0) (xs : List A) (k : ℕ) (a : A) → All P xs → slice_get xs k ≡ Some a → P a
all_at P xs k a all at = subst P (get_or_from_slice_get xs k a a at) (all k a (get_is_within xs k a at))

-- what holds of those below a place holds with that there, which is another one now
pub one_more_by_place : {A : Type 0} (P : A → Type 0) (xs : List A) (n : ℕ) (y : A) → ((k : ℕ) (a : A) → k < n → slice_get xs k ≡ Some a → P a) → P y
    → (k : ℕ) (a : A) → k < n + 1 → slice_get (slice_set xs n y) k ≡ Some a → P a
one_more_by_place P [] n y below here k a low e = absurd (let none : None ≡ Some a = e in cc)
one_more_by_place P (x ∷ xs) zero y below here zero a low e = let same : y ≡ a = cc in subst P same here
one_more_by_place P (x ∷ xs) zero y below here (suc k) a low e = absurd (omega (arith, low))
one_more_by_place P (x ∷ xs) (suc n) y below here zero a low e = below zero a (omega arith) e
one_more_by_place P (x ∷ xs) (suc n) y below here (suc k) a low e = one_more_by_place P xs n y (λ j b l h. below (suc j) b (omega (arith, l)) h) here k a (omega (arith, low)) e
