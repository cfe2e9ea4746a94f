-- Lists read at a number, prefixes, and functions changed at a number.
use Rattle.std.proofs.Common.{◌≡◌, ◌≢◌, ◌⊎◌, inl, inr, ℕ, zero, suc, ◌+◌, ◌<◌, ◌≤◌, Bool, true, false, cond, ltb, List, [], ◌∷◌, ◌++◌, length, drop, Option, Some, None, refl, sym, ap, ap₂, ◌∙◌, subst, arith, ◌==◌, append_assoc, append-nil, length-append, ⊎_elim}
use Rattle.std.proofs.lemmas.Bool.Decides.{nat_tests}
use Rattle.nm_model.specs.Lists.{nth, IsPrefix, set_at, keep_where}

pub bool_cases : (b : Bool) → (b ≡ true) ⊎ (b ≡ false)
bool_cases true = inl refl
bool_cases false = inr refl

pub option_cases : {A : Type 0} (o : Option A) → (o ≡ None) ⊎ ((x : A) × (o ≡ Some x))
option_cases None = inl refl
option_cases (Some x) = inr (x, refl)

pub some_inj : {A : Type 0} (x y : A) → Some x ≡ Some y → x ≡ y
some_inj x y e = cc

pub not_some : {A : Type 0} (x : A) → None ≡ Some x → ⊥
not_some x e = cc

pub same_number : (i j : ℕ) → (i ≡ j) ⊎ (i ≢ j)
same_number i j = grind (arith, nat_tests)

pub below_or_at : (i j : ℕ) → i < suc j → (i < j) ⊎ (i ≡ j)
below_or_at i j h = grind arith

pub equal_or_less : (i j : ℕ) → i ≤ j → (i ≡ j) ⊎ (i < j)
equal_or_less i j h = grind arith

pub number_apart : (i j : ℕ) → i ≢ j → (i == j) ≡ false
number_apart i j h = grind (arith, nat_tests)

pub number_tied : (i : ℕ) → (i == i) ≡ true
number_tied i = grind (arith, nat_tests)

pub number_is : (i j : ℕ) → (i == j) ≡ true → i ≡ j
number_is i j h = grind (arith, nat_tests)

module _ {A : Type 0} where
  pub set_here : (f : ℕ → A) (i : ℕ) (v : A) → set_at f i v i ≡ v
  unfolding set_at
  set_here f i v = ap (λ b. cond b v (f i)) (number_tied i)

  pub set_there : (f : ℕ → A) (i : ℕ) (v : A) (j : ℕ) → j ≢ i → set_at f i v j ≡ f j
  unfolding set_at
  set_there f i v j h = ap (λ b. cond b v (f j)) (number_apart j i h)

  -- a change of both keeps what they agree on
  pub set_both : (f g : ℕ → A) (i : ℕ) (v w : A) (j : ℕ) → (j ≡ i → v ≡ w) → (j ≢ i → f j ≡ g j) → set_at f i v j ≡ set_at g i w j
  set_both f g i v w j here there = ⊎_elim
      (λ e. subst (λ n. set_at f i v n ≡ set_at g i w n) (sym e) (set_here f i v ∙ here e ∙ sym (set_here g i w)))
      (λ h. set_there f i v j h ∙ there h ∙ sym (set_there g i w j h))
      (same_number j i)

  pub nth_below : (xs : List A) (n : ℕ) → n < length xs → (y : A) × (nth xs n ≡ Some y)
  nth_below [] n h = absurd (omega arith)
  nth_below (x ∷ xs) zero h = (x, refl)
  nth_below (x ∷ xs) (suc n) h = nth_below xs n (omega arith)

  pub below_nth : (xs : List A) (n : ℕ) (y : A) → nth xs n ≡ Some y → n < length xs
  below_nth [] n y e = absurd (cc)
  below_nth (x ∷ xs) zero y e = omega arith
  below_nth (x ∷ xs) (suc n) y e = let h = below_nth xs n y e in omega arith

  pub nth_front : (xs ys : List A) (n : ℕ) (y : A) → nth xs n ≡ Some y → nth (xs ++ ys) n ≡ Some y
  nth_front [] ys n y e = absurd (cc)
  nth_front (x ∷ xs) ys zero y e = e
  nth_front (x ∷ xs) ys (suc n) y e = nth_front xs ys n y e

  pub nth_append : (xs ys : List A) (n : ℕ) → n < length xs → nth (xs ++ ys) n ≡ nth xs n
  nth_append [] ys n h = absurd (omega arith)
  nth_append (x ∷ xs) ys zero h = refl
  nth_append (x ∷ xs) ys (suc n) h = nth_append xs ys n (omega arith)

  pub nth_last : (xs : List A) (y : A) → nth (xs ++ y ∷ []) (length xs) ≡ Some y
  nth_last [] y = refl
  nth_last (x ∷ xs) y = nth_last xs y

  pub nth_push : (xs : List A) (y z : A) (n : ℕ) → nth (xs ++ y ∷ []) n ≡ Some z → (nth xs n ≡ Some z) ⊎ ((n ≡ length xs) × (y ≡ z))
  nth_push [] y z zero e = inr (refl, cc)
  nth_push [] y z (suc n) e = absurd (cc)
  nth_push (x ∷ xs) y z zero e = inl e
  nth_push (x ∷ xs) y z (suc n) e = ⊎_elim (λ f. inl f) (λ f. inr (omega (arith, f.0), f.1)) (nth_push xs y z n e)

  pub nth_drop : (xs : List A) (n d : ℕ) (y : A) → nth (drop n xs) d ≡ Some y → nth xs (n + d) ≡ Some y
  nth_drop xs zero d y e = let z : d ≡ 0 + d = omega arith in ap (nth xs) (sym z) ∙ e
  nth_drop [] (suc n) d y e = absurd (cc)
  nth_drop (x ∷ xs) (suc n) d y e = let z : suc (n + d) ≡ suc n + d = omega arith in ap (nth (x ∷ xs)) (sym z) ∙ nth_drop xs n d y e

  pub prefix_self : (xs : List A) → IsPrefix xs xs
  prefix_self xs = ([], append-nil xs)

  pub prefix_trans : (xs ys zs : List A) → IsPrefix xs ys → IsPrefix ys zs → IsPrefix xs zs
  prefix_trans xs ys zs a b = (a.0 ++ b.0, sym (append_assoc xs a.0 b.0) ∙ ap (λ l. l ++ b.0) a.1 ∙ b.1)

  pub prefix_nth : (xs ys : List A) (n : ℕ) (y : A) → IsPrefix xs ys → nth xs n ≡ Some y → nth ys n ≡ Some y
  prefix_nth xs ys n y a e = sym (ap (λ l. nth l n) a.1) ∙ nth_front xs a.0 n y e

  pub nth_prefix : (xs ys : List A) (n : ℕ) (y : A) → IsPrefix xs ys → n < length xs → nth ys n ≡ Some y → nth xs n ≡ Some y
  nth_prefix xs ys n y a h e = sym (nth_append xs a.0 n h) ∙ ap (λ l. nth l n) a.1 ∙ e

  pub prefix_length : (xs ys : List A) → IsPrefix xs ys → length xs ≤ length ys
  prefix_length xs ys a = omega (arith, ap length a.1, length-append xs a.0)

  -- two that begin one another are one list
  pub prefix_both : (xs ys : List A) → IsPrefix xs ys → IsPrefix ys xs → xs ≡ ys
  prefix_both xs ys a b = go a.0 a.1 (prefix_length ys xs b)
    where
      go : (rest : List A) → xs ++ rest ≡ ys → length ys ≤ length xs → xs ≡ ys
      go [] e h = sym (append-nil xs) ∙ e
      go (z ∷ rest) e h = absurd (let l = length-append xs (z ∷ rest) in let m = ap length e in omega arith)

  pub prefix_push : (xs ys : List A) (y : A) → IsPrefix xs ys → nth ys (length xs) ≡ Some y → IsPrefix (xs ++ y ∷ []) ys
  prefix_push [] [] y a e = absurd (cc)
  prefix_push [] (z ∷ ys) y a e = let f : z ≡ y = cc in (ys, ap (λ w. w ∷ ys) (sym f))
  prefix_push (x ∷ xs) [] y a e = absurd (let h = a.1 in cc)
  prefix_push (x ∷ xs) (z ∷ ys) y a e =
      let h = a.1 in
      let t : xs ++ a.0 ≡ ys = cc in
      let f : x ≡ z = cc in
      let r = prefix_push xs ys y (a.0, t) e in
      (r.0, ap₂ (λ u v. u ∷ v) f r.1)

  -- of two prefixes of one list the shorter is a prefix of the longer
  pub prefix_shorter : (xs ys zs : List A) → IsPrefix xs zs → IsPrefix ys zs → length xs ≤ length ys → IsPrefix xs ys
  prefix_shorter [] ys zs a b h = (ys, refl)
  prefix_shorter (x ∷ xs) [] zs a b h = absurd (omega arith)
  prefix_shorter (x ∷ xs) (y ∷ ys) [] a b h = absurd (let e = a.1 in cc)
  prefix_shorter (x ∷ xs) (y ∷ ys) (z ∷ zs) a b h =
      let e = a.1 in let f = b.1 in
      let e1 : xs ++ a.0 ≡ zs = cc in
      let f1 : ys ++ b.0 ≡ zs = cc in
      let r = prefix_shorter xs ys zs (a.0, e1) (b.0, f1) (omega arith) in
      let g : x ≡ y = cc in
      (r.0, λ i. g i ∷ r.1 i)

  pub kept-append : (p : A → Bool) (xs ys : List A) → keep_where p (xs ++ ys) ≡ keep_where p xs ++ keep_where p ys
  kept-append p [] ys = refl
  kept-append p (x ∷ xs) ys =
      let r = kept-append p xs ys in
      elim (p x) as (λ b. cond b (x ∷ keep_where p (xs ++ ys)) (keep_where p (xs ++ ys)) ≡ cond b (x ∷ keep_where p xs) (keep_where p xs) ++ keep_where p ys) [ true ↦ ap (λ l. x ∷ l) r | false ↦ r ]

  pub nth_cong : (l k : List A) (n : ℕ) (b : A) → l ≡ k → nth l n ≡ Some b → nth k n ≡ Some b
  nth_cong l k n b e h = ap (λ z. nth z n) (sym e) ∙ h

pub same_time : {P : Type 0} (t u : ℕ) (x y : P) (o : Option (ℕ × P)) → o ≡ Some (t, x) → o ≡ Some (u, y) → (t ≡ u) × (x ≡ y)
same_time {P} t u x y o e f = let g = some_inj {A = ℕ × P} (t, x) (u, y) (sym e ∙ f) in (ap (λ z. z.0) g, ap (λ z. z.1) g)

-- where no fault is found that a lesser number has, the number is no less
pub no_less : {F : Type 0} (f : F) (t n : ℕ) → cond (ltb n t) (Some f) None ≡ None → t ≤ n
no_less f t n = go (ltb n t) refl
  where
    go : (z : Bool) → ltb n t ≡ z → cond z (Some f) None ≡ None → t ≤ n
    go true g h = absurd (cc)
    go false g h = grind (arith, nat_tests)
