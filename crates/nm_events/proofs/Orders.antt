-- Entries in the order of their keys.
use Rattle.std.proofs.Common.{◌≡◌, ℕ, zero, suc, ◌<◌, ◌≤◌, Bool, true, false, cond, T, List, [], ◌∷◌, length, Option, Some, None, refl, sym, ap, ◌∙◌, arith, ◌&&◌, true≢false}
use Rattle.std.proofs.Common.{Ordering, Less, Equal, Greater}
use Rattle.std.specs.List.{slice_index_or, insert as insert_at}
use Rattle.std.specs.List.Sorted.{IsPartitionPoint, IsPartitionedBy}
use Rattle.std.specs.Ordering.{is_lt, is_eq, eq_by_cmp, ordering_reverse}
use Rattle.std.specs.Cmp.{IsTotalOrder}
use Rattle.std.specs.FinMap.{find, put, is_sorted}
use Rattle.std.specs.FinMap.Entries.{below_all, is_sorted-put, by_order}

pub truth : (b : Bool) → b ≡ true → T b
truth true e = tt
truth false e = absurd (true≢false (sym e))

pub holds : (b : Bool) → T b → b ≡ true
holds true h = refl
holds false h = absurd h

pub first : (a b : Bool) → a && b ≡ true → a ≡ true
first true b e = refl
first false b e = e

pub second : (a b : Bool) → a && b ≡ true → b ≡ true
second true b e = e
second false b e = absurd (true≢false (sym e))

pub less : (r : Ordering) → is_lt r ≡ true → r ≡ Less
less Less e = refl
less Equal e = absurd (true≢false (sym e))
less Greater e = absurd (true≢false (sym e))

pub equal : (r : Ordering) → is_eq r ≡ true → r ≡ Equal
equal Less e = absurd (true≢false (sym e))
equal Equal e = refl
equal Greater e = absurd (true≢false (sym e))

pub greater : (r : Ordering) → is_lt r ≡ false → is_eq r ≡ false → r ≡ Greater
greater Less e f = absurd (true≢false e)
greater Equal e f = absurd (true≢false f)
greater Greater e f = refl

module _ {K X : Type 0} {R : K → K → Ordering} (o : IsTotalOrder R) where
  pub below_later : (a b : K) (es : List (K × X)) → R a b ≡ Less → below_all R b es ≡ true → below_all R a es ≡ true
  below_later a b [] e h = refl
  below_later a b (x ∷ es) e h =
      let here = o.trans a b x.0 e (less (R b x.0) (first _ _ h)) in
      ap (λ r. is_lt r && below_all R a es) here ∙ below_later a b es e (second _ _ h)

  below_at : (a : K) (es : List (K × X)) (j : ℕ) (d : K × X) → below_all R a es ≡ true → j < length es → R a (slice_index_or es j d).0 ≡ Less
  below_at a [] j d h l = absurd (omega arith)
  below_at a (x ∷ es) zero d h l = less (R a x.0) (first _ _ h)
  below_at a (x ∷ es) (suc j) d h l = below_at a es j d (second _ _ h) (omega arith)

  -- the entries before a key come first
  pub partitioned : (k : K) (es : List (K × X)) → is_sorted R es ≡ true → IsPartitionedBy (λ e. is_lt (R e.0 k)) es
  partitioned k [] h i j d le lt e = absurd (omega arith)
  partitioned k (x ∷ es) h zero zero d le lt e = e
  partitioned k (x ∷ es) h zero (suc j) d le lt e =
      let a = below_at x.0 es j d (first _ _ h) (omega arith) in
      let b = less (R (slice_index_or es j d).0 k) e in
      ap is_lt (o.trans x.0 (slice_index_or es j d).0 k a b)
  partitioned k (x ∷ es) h (suc i) zero d le lt e = absurd (omega arith)
  partitioned k (x ∷ es) h (suc i) (suc j) d le lt e = partitioned k es (second _ _ h) i j d (omega arith) (omega arith) e

  -- an entry put where the entries before its key end stands in its place
  pub put_at : (k : K) (v : X) (es : List (K × X)) (i : ℕ) → is_sorted R es ≡ true → find R k es ≡ None → i ≤ length es
      → IsPartitionPoint (λ e. is_lt (R e.0 k) ≡ true) (λ e. is_lt (R e.0 k) ≡ false) es i → put R k v es ≡ insert_at es i (k, v)
  put_at k v [] zero h none le p = refl
  put_at k v [] (suc i) h none le p = absurd (omega arith)
  put_at k v (x ∷ es) zero h none le p =
      let none_here : eq_by_cmp R k x.0 ≡ false = apart (eq_by_cmp R k x.0) x.1 (find R k es) none in
      let same : is_eq (R x.0 k) ≡ false = ap is_eq (o.antisymm x.0 k) ∙ turned (R k x.0) none_here in
      let g = greater (R x.0 k) (p.1 0 x (omega arith) (omega arith)) same in
      ap (λ r. by_order r ((k, v) ∷ x ∷ es) ((x.0, v) ∷ es) (x ∷ put R k v es)) (o.antisymm k x.0 ∙ ap ordering_reverse g)
    where
      apart : (b : Bool) (w : X) (r : Option X) → cond b (Some w) r ≡ None → b ≡ false
      apart true w r e = absurd cc
      apart false w r e = refl

      turned : (r : Ordering) → is_eq r ≡ false → is_eq (ordering_reverse r) ≡ false
      turned Less e = refl
      turned Equal e = e
      turned Greater e = refl
  put_at k v (x ∷ es) (suc i) h none le p =
      let l = less (R x.0 k) (p.0 0 x (omega arith) (omega arith)) in
      let g = o.antisymm k x.0 ∙ ap ordering_reverse l in
      let rest = put_at k v es i (second _ _ h) (sym (ap (λ r. cond (is_eq r) (Some x.1) (find R k es)) g) ∙ none) (omega arith)
      ((λ j d a b. p.0 (suc j) d (omega arith) (omega arith)), (λ j d a b. p.1 (suc j) d (omega arith) (omega arith))) in
      ap (λ r. by_order r ((k, v) ∷ x ∷ es) ((x.0, v) ∷ es) (x ∷ put R k v es)) g ∙ ap (λ l. x ∷ l) rest

  pub sorted_after : (k : K) (v : X) (es ys : List (K × X)) → is_sorted R es ≡ true → ys ≡ put R k v es → is_sorted R ys ≡ true
  sorted_after k v es ys h e = ap (is_sorted R) e ∙ holds _ (is_sorted-put R o k v es (truth _ h))
