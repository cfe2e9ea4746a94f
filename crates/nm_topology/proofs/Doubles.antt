-- Lists seen through a function: doubles and positions. Lists without doubles.
use Rattle.std.proofs.Common.{◌≡◌, ◌≢◌, All, AllPairs, Bool, true, false, ◌||◌, List, [], ◌∷◌, ◌++◌}
use Rattle.std.proofs.Common.{map, length, ◌+◌, not, nat_lt, Some, None, refl, sym, ap, ◌∙◌, cond}
use Rattle.std.proofs.Common.{arith}
use Rattle.std.proofs.lemmas.List.Elements.{All-cons, All-weaker}
use Rattle.std.proofs.lemmas.List.Folds.{list_any-append}
use Rattle.std.proofs.lemmas.List.Kept.{AllPairs-cons}
use Rattle.std.specs.List.{list_any, position, position_or_len, prefix_len}
use Rattle.std.proofs.lemmas.List.{map_push, length-map}
use Rattle.nm_topology.specs.Names.{repeats, has_double}

list_any-map : {X Y : Type 0} (p : Y → Bool) (f : X → Y) (xs : List X) → list_any p (map f xs) ≡ list_any (λ x. p (f x)) xs
list_any-map p f [] = refl
list_any-map p f (x ∷ xs) = ap (λ b. p (f x) || b) (list_any-map p f xs)

module _ {X Y : Type 0} (same : Y → Y → Bool) (f : X → Y) where
  repeats-map : (seen xs : List X) → repeats same (map f seen) (map f xs) ≡ repeats (λ a b. same (f a) (f b)) seen xs
  repeats-map seen [] = refl
  repeats-map seen (x ∷ xs) =
      ap (λ b. b || repeats same (map f seen ++ f x ∷ []) (map f xs)) (list_any-map (same (f x)) f seen)
      ∙ ap (λ l. list_any (λ y. same (f x) (f y)) seen || repeats same l (map f xs)) (sym (map_push f seen x))
      ∙ ap (λ b. list_any (λ y. same (f x) (f y)) seen || b) (repeats-map (seen ++ x ∷ []) xs)

  pub has_double-map : (xs : List X) → has_double same (map f xs) ≡ has_double (λ a b. same (f a) (f b)) xs
  has_double-map xs = repeats-map [] xs

module _ {X Y : Type 0} (f : X → Y) where
  prefix_len-map : (q : Y → Bool) (xs : List X) → prefix_len q (map f xs) ≡ prefix_len (λ x. q (f x)) xs
  prefix_len-map q [] = refl
  prefix_len-map q (x ∷ xs) = ap (λ n. cond (q (f x)) (1 + n) 0) (prefix_len-map q xs)

  pub position-map : (p : Y → Bool) (xs : List X) → position p (map f xs) ≡ position (λ x. p (f x)) xs
  position-map p xs =
      ap (λ n. cond (nat_lt n (length (map f xs))) (Some n) None) (prefix_len-map (λ y. not (p y)) xs)
      ∙ ap (λ n. cond (nat_lt (position_or_len (λ x. p (f x)) xs) n) (Some (position_or_len (λ x. p (f x)) xs)) None) (length-map xs f)

neither : (a b : Bool) → (a || b) ≡ false → (a ≡ false) × (b ≡ false)
neither true b e = cc
neither false b e = (refl, e)

module _ {X : Type 0} (same : X → X → Bool) where
  -- y is neither one of those seen nor x
  unlike : (seen : List X) (x y : X) → list_any (same y) (seen ++ x ∷ []) ≡ false → (list_any (same y) seen ≡ false) × (same y x ≡ false)
  unlike seen x y e =
      let both = neither (list_any (same y) seen) (list_any (same y) (x ∷ [])) (sym (list_any-append (same y) seen (x ∷ [])) ∙ e) in
      (both.0, (neither (same y x) false both.1).0)

  unseen : (seen xs : List X) → repeats same seen xs ≡ false → All (λ y. list_any (same y) seen ≡ false) xs
  unseen seen [] e = λ k d h. absurd (omega arith)
  unseen seen (x ∷ xs) e =
      let both = neither (list_any (same x) seen) (repeats same (seen ++ x ∷ []) xs) e in
      All-cons (λ y. list_any (same y) seen ≡ false) x xs both.0
      (All-weaker (λ y. list_any (same y) (seen ++ x ∷ []) ≡ false) (λ y. list_any (same y) seen ≡ false) (λ y h. (unlike seen x y h).0) xs (unseen (seen ++ x ∷ []) xs both.1))

  apart : (seen xs : List X) → repeats same seen xs ≡ false → AllPairs (λ x y. same y x ≡ false) xs
  apart seen [] e = λ i j d h l. absurd (omega arith)
  apart seen (x ∷ xs) e =
      let rest = (neither (list_any (same x) seen) (repeats same (seen ++ x ∷ []) xs) e).1 in
      AllPairs-cons (λ x y. same y x ≡ false) x xs
      (All-weaker (λ y. list_any (same y) (seen ++ x ∷ []) ≡ false) (λ y. same y x ≡ false) (λ y h. (unlike seen x y h).1) xs (unseen (seen ++ x ∷ []) xs rest))
      (apart (seen ++ x ∷ []) xs rest)

  -- no two elements are the same
  pub all_apart : (xs : List X) → has_double same xs ≡ false → AllPairs (λ x y. same y x ≡ false) xs
  all_apart xs e = apart [] xs e

-- elements whose keys are no doubles have different keys
pub keys-differ : {X K : Type 0} (same : K → K → Bool) (key : X → K) → ((k : K) → same k k ≡ true) → (xs : List X) → has_double same (map key xs) ≡ false → AllPairs (λ x y. key x ≢ key y) xs
keys-differ same key reflexive xs e i j d h l =
    let differ = all_apart (λ a b. same (key a) (key b)) xs (sym (has_double-map same key xs) ∙ e) i j d h l in
    λ equal. unequal same reflexive _ _ equal differ
  where
    unequal : {K : Type 0} (same : K → K → Bool) → ((k : K) → same k k ≡ true) → (a b : K) → a ≡ b → same b a ≡ false → ⊥
    unequal same reflexive a b equal e = let t : same b b ≡ true = reflexive b in let f : same b a ≡ same b b = ap (same b) equal in cc
