-- Lists in which nothing stands twice, and one thing more.
use Rattle.std.specs.Prelude.{not, IfOk}
use Rattle.std.specs.Str.{bytes_eq}
use Rattle.std.proofs.lemmas.List.{take-map}
use Rattle.std.proofs.Common.{Bor, Option, Some, None, Result, Ok, Err, map, subst}
use Rattle.nm_topology.proofs.Doubles.{has_double-map}
use Rattle.nm_check.specs.declared.doubles.Double.{Double}
use Rattle.nm_check.specs.Doubles.{IsFirstDouble}
use Rattle.std.proofs.Math.Seq.{take-suc}
use Rattle.std.proofs.Common.{◌+◌, ◌<◌, suc, add-one, get_or, length, take}
use Rattle.std.proofs.Common.{◌≡◌, ℕ, Bool, true, false, ◌||◌, List, [], ◌∷◌, ◌++◌, refl, sym, ap, ◌∙◌, append_assoc}
use Rattle.std.specs.List.{list_any}
use Rattle.nm_topology.specs.Names.{repeats}

append-nil : {X : Type 0} (xs : List X) → xs ++ [] ≡ xs
append-nil [] = refl
append-nil (x ∷ xs) = ap (λ ys. x ∷ ys) (append-nil xs)

or-false : (b : Bool) → (b || false) ≡ b
or-false true = refl
or-false false = refl

or-assoc : (a b c : Bool) → (a || (b || c)) ≡ ((a || b) || c)
or-assoc true b c = refl
or-assoc false b c = refl

-- one thing more at the end repeats something, or what stands before does
pub repeats-snoc : {X : Type 0} (same : X → X → Bool) (seen xs : List X) (x : X) → repeats same seen (xs ++ x ∷ []) ≡ (repeats same seen xs || list_any (same x) (seen ++ xs))
repeats-snoc same seen [] x = or-false (list_any (same x) seen) ∙ ap (list_any (same x)) (sym (append-nil seen))
repeats-snoc same seen (y ∷ ys) x =
    ap (λ b. list_any (same y) seen || b) (repeats-snoc same (seen ++ y ∷ []) ys x ∙ ap (λ zs. repeats same (seen ++ y ∷ []) ys || list_any (same x) zs) (append_assoc seen (y ∷ []) ys))
    ∙ or-assoc (list_any (same y) seen) (repeats same (seen ++ y ∷ []) ys) (list_any (same x) (seen ++ y ∷ ys))

-- the front of a list with one thing more, where nothing stands in the front twice
pub front-and-one : {X : Type 0} (same : X → X → Bool) (xs : List X) (n m : ℕ) (x : X) (keys : List X) (b : Bool) → n ≡ m → m < length xs → x ≡ get_or xs m x → keys ≡ take m xs → repeats same [] (take m xs) ≡ false → list_any (same x) keys ≡ b
    → (repeats same [] (take n xs) ≡ false) × (repeats same [] (take (n + 1) xs) ≡ b)
front-and-one same xs n m x keys b place within here front clean among =
    let at_place : repeats same [] (take n xs) ≡ false = ap (λ k. repeats same [] (take k xs)) place ∙ clean in
    let longer : take (n + 1) xs ≡ take m xs ++ x ∷ [] =
    ap (λ k. take k xs) (add-one n ∙ ap suc place) ∙ take-suc xs m x within ∙ ap (λ y. take m xs ++ y ∷ []) (sym here) in (
      at_place,
      ap (repeats same []) longer ∙ repeats-snoc same [] (take m xs) x
          ∙ ap (λ c. c || list_any (same x) (take m xs)) clean
          ∙ ap (list_any (same x)) (sym front) ∙ among,
    )

pub is-among : (a b : Bool) → a ≡ not b → a ≡ false → b ≡ true
is-among a true e h = refl
is-among a false e h = cc

pub is-not-among : (a b : Bool) → a ≡ not b → a ≡ true → b ≡ false
is-not-among a true e h = cc
is-not-among a false e h = refl

-- the first double of a list seen through a function
pub double-map : {X Y : Type 0} (same : Y → Y → Bool) (f : X → Y) (xs : List X) (o : Option Double) → IsFirstDouble (λ a b. same (f a) (f b)) xs o → IsFirstDouble same (map f xs) o
double-map same f xs None h = has_double-map same f xs ∙ h
double-map same f xs (Some d) h = (
  ap (repeats same []) (take-map f d.second xs) ∙ has_double-map same f (take d.second xs) ∙ h.0,
  ap (repeats same []) (take-map f (d.second + 1) xs) ∙ has_double-map same f (take (d.second + 1) xs) ∙ h.1,
)

-- the first double of names
pub double-names : {E : Type 0} (r : Result (Option Double) E) (names : List (Bor (List ℕ))) (texts : List (List ℕ)) → map (λ k. k.now) names ≡ texts → IfOk r (λ found. IsFirstDouble (λ a b. bytes_eq a.now b.now) names found) → IfOk r (λ found. IsFirstDouble bytes_eq texts found)
double-names (Ok o) names texts e h = subst (λ (ts : List (List ℕ)). IsFirstDouble bytes_eq ts o) e (double-map bytes_eq (λ (k : Bor (List ℕ)). k.now) names o h)
double-names (Err q) names texts e h = tt
