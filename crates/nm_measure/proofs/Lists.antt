-- Lists of which one element changes, and the records of an event.
use Rattle.std.proofs.Common.{◌≡◌, ◌≢◌, ℕ, zero, suc, ◌+◌, ◌<◌, ◌≤◌, ◌⊎◌, inl, inr, List, [], ◌∷◌, ◌++◌, length, get_or, map, Some, slice_get, slice_set, refl, sym, ap, ◌∙◌, subst, arith, length-set, ⊎_elim}
use Rattle.std.proofs.lemmas.Option.{slice_get-get_or, slice_get_within}
use Rattle.nm_model.proofs.ListLemmas.{not_some, same_number, some_inj}
use Rattle.nm_measure.specs.declared.seen.Seen.{Seen}
use Rattle.nm_measure.specs.Interfaces.{OneChanges}

module _ {X : Type 0} where
  pub set_same : (xs : List X) (k : ℕ) (y : X) → k < length xs → slice_get (slice_set xs k y) k ≡ Some y
  set_same [] k y h = absurd (omega (arith, h))
  set_same (x ∷ xs) zero y h = refl
  set_same (x ∷ xs) (suc k) y h = set_same xs k y (omega (arith, h))

  pub set_other : (xs : List X) (k i : ℕ) (y : X) → i ≢ k → slice_get (slice_set xs k y) i ≡ slice_get xs i
  set_other [] k i y h = refl
  set_other (x ∷ xs) zero zero y h = absurd (h refl)
  set_other (x ∷ xs) zero (suc i) y h = refl
  set_other (x ∷ xs) (suc k) zero y h = refl
  set_other (x ∷ xs) (suc k) (suc i) y h = set_other xs k i y (λ e. h (ap suc e))

  -- what stands in a list with one more element is that element, or stood there before
  pub pushed_is : (xs : List X) (v : X) (i : ℕ) (x : X) → slice_get (xs ++ v ∷ []) i ≡ Some x → (slice_get xs i ≡ Some x) ⊎ ((i ≡ length xs) × (x ≡ v))
  pushed_is [] v zero x h = inr (refl, sym (some_inj v x h))
  pushed_is [] v (suc i) x h = absurd (not_some x h)
  pushed_is (y ∷ xs) v zero x h = inl h
  pushed_is (y ∷ xs) v (suc i) x h = ⊎_elim (λ g. inl g) (λ g. inr (ap suc g.0, g.1)) (pushed_is xs v i x h)

  -- an element that was read
  pub read_at : (xs : List X) (k j : ℕ) (x : X) → j ≡ k → j < length xs → x ≡ get_or xs j x → slice_get xs k ≡ Some x
  read_at xs k j x same low is = ap (slice_get xs) (sym same) ∙ slice_get-get_or xs j x low ∙ ap Some (sym is)

-- one changes so
pub one_set : (Changes : Seen → Seen → Type 0) (old : List Seen) (k j : ℕ) (x y : Seen) → j ≡ k → slice_get old k ≡ Some x → Changes x y → OneChanges k Changes old (slice_set old j y)
one_set Changes old k j x y same at changes = record {
  count = length-set old j y;
  here = λ z e. (
    y,
    ap (λ m. slice_get (slice_set old m y) k) same ∙ set_same old k y (slice_get_within old k x at),
    subst (λ w. Changes w y) (some_inj x z (sym at ∙ e)) changes,
  );
  others = λ i h. set_other old j i y (λ e. h (e ∙ same));
}

-- none does, where there is none
pub none_set : (Changes : Seen → Seen → Type 0) (old : List Seen) (k : ℕ) → length old ≤ k → OneChanges k Changes old old
none_set Changes old k past = record {
  count = refl;
  here = λ z e. absurd (let w = slice_get_within old k z e in omega (arith, w, past));
  others = λ i h. refl;
}

-- the first n of these turned so
abbrev pub AreTurned : {X : Type 0} → (X → X → Type 0) → List X → List X → ℕ → Type 0
AreTurned {X} Turns old new n = (i : ℕ) (y : X) → slice_get new i ≡ Some y → (x : X) × (slice_get old i ≡ Some x) × (i < n → Turns x y) × (n ≤ i → y ≡ x)

pub turned_more : {X : Type 0} (Turns : X → X → Type 0) (old mid : List X) (n : ℕ) (x y : X) → n < length mid → slice_get mid n ≡ Some x → Turns x y → AreTurned Turns old mid n
    → AreTurned Turns old (slice_set mid n y) (n + 1)
turned_more Turns old mid n x y low at turns h i z e = ⊎_elim
    (λ same.
    let y_is : y ≡ z = some_inj y z (sym (set_same mid n y low) ∙ ap (slice_get (slice_set mid n y)) (sym same) ∙ e) in
    let w = h n x at in (
      w.0,
      ap (slice_get old) same ∙ w.1,
      (λ l. subst (Turns w.0) y_is (subst (λ v. Turns v y) (w.3 (omega arith)) turns)),
      λ l. absurd (omega (arith, l, same)),
    ))
    (λ apart.
    let w = h i z (sym (set_other mid n i y apart) ∙ e) in (
      w.0,
      w.1,
      (λ l. w.2 (omega (arith, l, apart))),
      λ l. w.3 (omega (arith, l)),
    ))
    (same_number i n)

pub none_turned : {X : Type 0} (Turns : X → X → Type 0) (xs : List X) → AreTurned Turns xs xs 0
none_turned Turns xs i y at = (y, at, (λ l. absurd (omega (arith, l))), λ l. refl)

-- what stands in a list of values of a function
pub mapped_some : {X Y : Type 0} (f : X → Y) (xs : List X) (i : ℕ) (y : Y) → slice_get (map f xs) i ≡ Some y → (x : X) × (slice_get xs i ≡ Some x) × (f x ≡ y)
mapped_some f [] i y h = absurd (not_some y h)
mapped_some f (x ∷ xs) zero y h = (x, refl, some_inj (f x) y h)
mapped_some f (x ∷ xs) (suc i) y h = mapped_some f xs i y h
