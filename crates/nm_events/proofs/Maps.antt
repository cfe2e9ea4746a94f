-- Finite maps, and lists of entries of which they are made.
use Rattle.std.proofs.Common.{◌≡◌, ◌+◌, Bool, true, false, cond, List, [], ◌∷◌, length, Some, None, refl, sym, ap, ◌∙◌, arith, ◌&&◌}
use Rattle.std.proofs.Common.{Ordering, Less, Equal, Greater}
use Rattle.std.specs.Ordering.{is_lt, is_eq, eq_by_cmp}
use Rattle.std.specs.Cmp.{IsTotalOrder, eq_by_cmp_equiv}
use Rattle.std.specs.FinMap.{FinMap, entries, entries-insert, same_map, IsAntisymmetric, from_entries, get, get-entries, get-insert, get-remove, insert, remove, empty, len, len-empty, len-entries, len-insert, find, put}
use Rattle.std.specs.Option.{is_some}
use Rattle.std.specs.FinMap.Entries.{below_all, by_order}
use Rattle.nm_model.specs.EventList.{first_of_list}
use Rattle.nm_events.proofs.Orders.{first, second, less, equal}

pub some_none : {A : Type 0} (a : A) → Some a ≡ None → ⊥
some_none a e = absurd cc

pub none_length : {A : Type 0} (es : List A) → length es ≡ 0 → es ≡ []
none_length [] e = refl
none_length (x ∷ es) e = absurd (omega arith)

pub ties_itself : {K : Type 0} {R : K → K → Ordering} → IsTotalOrder R → (k : K) → eq_by_cmp R k k ≡ true
ties_itself o k = (eq_by_cmp_equiv o).refl k

module _ {K X : Type 0} {R : K → K → Ordering} (o : IsTotalOrder R) where
  -- a key that ties with one below all has no entry
  pub none_tied : (q a : K) (es : List (K × X)) → eq_by_cmp R q a ≡ true → below_all R a es ≡ true → find R q es ≡ None
  none_tied q a [] t h = refl
  none_tied q a (x ∷ es) t h =
      let l : R q x.0 ≡ Less = o.congr q a x.0 (equal (R q a) t) ∙ less (R a x.0) (first _ _ h) in
      ap (λ r. cond (is_eq r) (Some x.1) (find R q es)) l ∙ none_tied q a es t (second _ _ h)

  pub none_below : (k : K) (es : List (K × X)) → below_all R k es ≡ true → find R k es ≡ None
  none_below k es = none_tied k k es (ties_itself o k)

  pub found_first : (e : K × X) (es : List (K × X)) → find R e.0 (e ∷ es) ≡ None → ⊥
  found_first e es none = some_none e.1 (sym (ap (λ b. cond b (Some e.1) (find R e.0 es)) (ties_itself o e.0)) ∙ none)

  pub none_in_rest : (q : K) (e : K × X) (es : List (K × X)) → find R q (e ∷ es) ≡ None → find R q es ≡ None
  none_in_rest q e es = go (eq_by_cmp R q e.0)
    where
      go : (b : Bool) → cond b (Some e.1) (find R q es) ≡ None → find R q es ≡ None
      go true h = absurd (some_none e.1 h)
      go false h = h

  -- what is put before all comes first
  pub put_first : (k : K) (v : X) (es : List (K × X)) → below_all R k es ≡ true → put R k v es ≡ (k, v) ∷ es
  put_first k v [] h = refl
  put_first k v (x ∷ es) h = ap (λ r. by_order r ((k, v) ∷ x ∷ es) ((x.0, v) ∷ es) (x ∷ put R k v es)) (less (R k x.0) (first _ _ h))

  pub below_put : (a k : K) (v : X) (es : List (K × X)) → is_lt (R a k) ≡ true → below_all R a es ≡ true → below_all R a (put R k v es) ≡ true
  below_put a k v [] l h = ap (λ b. b && true) l
  below_put a k v (x ∷ es) l h =
      elim (R k x.0) as (λ r. below_all R a (by_order r ((k, v) ∷ x ∷ es) ((x.0, v) ∷ es) (x ∷ put R k v es)) ≡ true) [
        | Less ↦ ap (λ b. b && below_all R a (x ∷ es)) l ∙ h
        | Equal ↦ h
        | Greater ↦ ap (λ b. b && below_all R a (put R k v es)) (first _ _ h) ∙ below_put a k v es l (second _ _ h)
      ]

  pub below_entries : (k : K) (es : List (K × X)) → below_all R k es ≡ true → below_all R k (entries (from_entries {R = R} es)) ≡ true
  below_entries k [] h = ap (below_all R k) (none_length (entries (empty {X = X} {R = R})) (sym (len-entries (empty {X = X} {R = R})) ∙ len-empty R X))
  below_entries k (e ∷ es) h =
      ap (below_all R k) (entries-insert o (from_entries es) e.0 e.1) ∙ below_put k e.0 e.1 _ (first _ _ h) (below_entries k es (second _ _ h))

  -- an entry put before all others of a map is its first
  pub first_put : (m : FinMap R X) (k : K) (v : X) → below_all R k (entries m) ≡ true → first_of_list (entries (insert m k v)) ≡ Some (k, v)
  first_put m k v h = ap first_of_list (entries-insert o m k v ∙ put_first k v (entries m) h)

  -- and to take it out leaves the others
  pub put_taken : IsAntisymmetric R → (m : FinMap R X) (k : K) (v : X) → below_all R k (entries m) ≡ true → m ≡ remove (insert m k v) k
  put_taken same m k v h = same_map o same _ _ (λ q. go q (eq_by_cmp R q k) refl
      ∙ sym (get-remove o (insert m k v) k q ∙ ap (cond (eq_by_cmp R q k) None) (get-insert o m k v q)))
    where
      go : (q : K) (b : Bool) → eq_by_cmp R q k ≡ b → get m q ≡ cond b None (cond b (Some v) (get m q))
      go q true t = get-entries m q ∙ none_tied q k (entries m) t h
      go q false t = refl

  pub len_put : (m : FinMap R X) (k : K) (v : X) → get m k ≡ None → len (insert m k v) ≡ len m + 1
  len_put m k v none = len-insert o m k v ∙ ap (λ r. cond (is_some r) (len m) (len m + 1)) none
