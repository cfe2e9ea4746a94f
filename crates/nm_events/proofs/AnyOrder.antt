-- Entries in any order, as a finite map.
use Rattle.std.proofs.Common.{◌≡◌, zero, suc, ◌+◌, Bool, true, false, cond, List, [], ◌∷◌, map, length, Option, Some, None, refl, sym, ap, ◌∙◌, arith}
use Rattle.std.specs.List.{Contains, AllByRecursion, IsDistinct}
use Rattle.std.proofs.lemmas.Map.Keys.{IsDistinct-head, IsDistinct-tail, IsDistinct-cons, IsDistinct-IsPermutation}
use Rattle.std.specs.List.Sorted.{IsPermutation}
use Rattle.std.proofs.lemmas.List.Sorted.{Contains-permutation, list_any-IsPermutation, IsPermutation-map}
use Rattle.std.proofs.Common.{Ordering, Less, Equal, Greater}
use Rattle.std.specs.Ordering.{is_eq, eq_by_cmp, ordering_reverse}
use Rattle.std.specs.Option.{is_some}
use Rattle.std.specs.FinMap.{entries, same_map, from_entries, get-from_entries, insert, remove, empty, len, len-empty, len-entries, find, put, is_sorted}
use Rattle.std.specs.FinMap.Entries.{below_all, find-put, is_some-find}
use Rattle.nm_base.specs.declared.key.Key.{Key}
use Rattle.nm_base.specs.Key.{key_cmp, key_cmp_total, key_cmp-IsAntisymmetric}
use Rattle.nm_model.specs.EventList.{first_of_list, least}
use Rattle.nm_events.proofs.Orders.{equal, first, second}
use Rattle.nm_events.proofs.Maps.{none_length, some_none, none_below, none_in_rest, below_entries, first_put, len_put, put_taken, ties_itself}

-- no two have one key
abbrev pub AreDistinct : {X : Type 0} → List (Key × X) → Type 0
AreDistinct es = IsDistinct (eq_by_cmp key_cmp) (map (λ e. e.0) es)

pub flips : (x y : Key) → eq_by_cmp key_cmp x y ≡ eq_by_cmp key_cmp y x
flips x y = ap is_eq (key_cmp_total.antisymm x y) ∙ turned (key_cmp y x)
  where
    turned : (r : Ordering) → is_eq (ordering_reverse r) ≡ is_eq r
    turned Less = refl
    turned Equal = refl
    turned Greater = refl

pub none_distinct : (X : Type 0) → AreDistinct {X = X} []
unfolding IsDistinct
none_distinct X = tt

module _ {X : Type 0} where
  -- a key that ties with none is not found, and the other way round
  pub none_from_all : (k : Key) (es : List (Key × X)) → AllByRecursion (λ y. eq_by_cmp key_cmp k y ≡ false) (map (λ e. e.0) es) → find key_cmp k es ≡ None
  none_from_all k [] h = refl
  none_from_all k (e ∷ es) h = ap (λ b. cond b (Some e.1) (find key_cmp k es)) h.0 ∙ none_from_all k es h.1

  pub all_from_none : (k : Key) (es : List (Key × X)) → find key_cmp k es ≡ None → AllByRecursion (λ y. eq_by_cmp key_cmp k y ≡ false) (map (λ e. e.0) es)
  all_from_none k [] h = tt
  all_from_none k (e ∷ es) h = (go (eq_by_cmp key_cmp k e.0) h, all_from_none k es (none_in_rest key_cmp_total k e es h))
    where
      go : (b : Bool) → cond b (Some e.1) (find key_cmp k es) ≡ None → b ≡ false
      go true n = absurd (some_none e.1 n)
      go false n = refl

  pub head_none : (e : Key × X) (es : List (Key × X)) → AreDistinct (e ∷ es) → find key_cmp e.0 es ≡ None
  head_none e es d = none_from_all e.0 es (IsDistinct-head (eq_by_cmp key_cmp) e.0 (map (λ e. e.0) es) d)

  pub tail_distinct : (e : Key × X) (es : List (Key × X)) → AreDistinct (e ∷ es) → AreDistinct es
  tail_distinct e es d = IsDistinct-tail (eq_by_cmp key_cmp) e.0 (map (λ e. e.0) es) d

  pub more_distinct : (e : Key × X) (es : List (Key × X)) → find key_cmp e.0 es ≡ None → AreDistinct es → AreDistinct (e ∷ es)
  more_distinct e es n d = IsDistinct-cons (eq_by_cmp key_cmp) e.0 (map (λ e. e.0) es) (all_from_none e.0 es n) d

  -- an entry that stands in a list is found, where no two have one key
  stands_found : (es : List (Key × X)) → AreDistinct es → (e : Key × X) → Contains es e → find key_cmp e.0 es ≡ Some e.1
  stands_found [] d e (k, below, is) = absurd (omega arith)
  stands_found (x ∷ es) d e (zero, below, is) =
      ap (λ z. find key_cmp z.0 (x ∷ es)) (sym is) ∙ ap (λ b. cond b (Some x.1) (find key_cmp x.0 es)) (ties_itself key_cmp_total x.0) ∙ ap (λ z. Some z.1) is
  stands_found (x ∷ es) d e (suc k, below, is) = go (stands_found es (tail_distinct x es d) e (k, omega arith, is)) (eq_by_cmp key_cmp e.0 x.0) refl
    where
      go : find key_cmp e.0 es ≡ Some e.1 → (b : Bool) → eq_by_cmp key_cmp e.0 x.0 ≡ b → cond b (Some x.1) (find key_cmp e.0 es) ≡ Some e.1
      go later true t = absurd (some_none e.1 (sym later ∙ ap (λ q. find key_cmp q es) (key_cmp-IsAntisymmetric e.0 x.0 (equal (key_cmp e.0 x.0) t)) ∙ head_none x es d))
      go later false t = later

  -- and what is found stands there
  found_stands : (q : Key) (es : List (Key × X)) (v : X) → find key_cmp q es ≡ Some v → Contains es (q, v)
  found_stands q [] v h = absurd (cc)
  found_stands q (x ∷ es) v h = go (found_stands q es v) (eq_by_cmp key_cmp q x.0) refl h
    where
      go : (find key_cmp q es ≡ Some v → Contains es (q, v)) → (b : Bool) → eq_by_cmp key_cmp q x.0 ≡ b → cond b (Some x.1) (find key_cmp q es) ≡ Some v → Contains (x ∷ es) (q, v)
      go later true t f =
          let k = key_cmp-IsAntisymmetric q x.0 (equal (key_cmp q x.0) t) in
          let w : x.1 ≡ v = cc in
          (0, omega arith, λ i. (sym k i, w i))
      go later false t f = let c = later f in (suc c.0, omega (arith, c.1), c.2)

  no_some : (o : Option X) → is_some o ≡ false → o ≡ None
  no_some None e = refl
  no_some (Some x) e = absurd (cc)

  -- in another order the same is found
  pub permuted_found : (es fs : List (Key × X)) → IsPermutation es fs → AreDistinct fs → (q : Key) → find key_cmp q es ≡ find key_cmp q fs
  permuted_found es fs p d q = go (find key_cmp q es) refl
    where
      alike : is_some (find key_cmp q es) ≡ is_some (find key_cmp q fs)
      alike = is_some-find key_cmp q es
          ∙ list_any-IsPermutation (eq_by_cmp key_cmp q) (map (λ e. e.0) es) (map (λ e. e.0) fs) (IsPermutation-map (λ e. e.0) es fs p)
          ∙ sym (is_some-find key_cmp q fs)

      go : (o : Option X) → find key_cmp q es ≡ o → o ≡ find key_cmp q fs
      go (Some v) f = sym (stands_found fs d (q, v) (Contains-permutation es fs (q, v) p (found_stands q es v f)))
      go None f = sym (no_some (find key_cmp q fs) (sym alike ∙ ap is_some f))

  pub permuted_distinct : (es fs : List (Key × X)) → IsPermutation es fs → AreDistinct es → AreDistinct fs
  permuted_distinct es fs p d = IsDistinct-IsPermutation (eq_by_cmp key_cmp) flips (map (λ e. e.0) es) (map (λ e. e.0) fs) (IsPermutation-map (λ e. e.0) es fs p) d

  -- and the map is the same
  pub permuted_map : (es fs : List (Key × X)) → IsPermutation es fs → AreDistinct fs → from_entries {R = key_cmp} es ≡ from_entries fs
  permuted_map es fs p d = same_map key_cmp_total key_cmp-IsAntisymmetric (from_entries es) (from_entries fs)
      (λ q. get-from_entries key_cmp_total es q ∙ permuted_found es fs p d q ∙ sym (get-from_entries key_cmp_total fs q))

  -- an entry that all others come behind is the least, and to take it out leaves them
  module _ (e : Key × X) (es : List (Key × X)) (below : below_all key_cmp e.0 es ≡ true) where
    pub least_in : least (from_entries (e ∷ es)) ≡ Some e
    unfolding least
    least_in = first_put key_cmp_total (from_entries es) e.0 e.1 (below_entries key_cmp_total e.0 es below)

    pub rest_in : from_entries {R = key_cmp} es ≡ remove (from_entries (e ∷ es)) e.0
    rest_in = put_taken key_cmp_total key_cmp-IsAntisymmetric (from_entries es) e.0 e.1 (below_entries key_cmp_total e.0 es below)

  pub least_none : least (from_entries {X = X} {R = key_cmp} []) ≡ None
  unfolding least
  least_none = ap first_of_list (none_length (entries (empty {X = X} {R = key_cmp})) (sym (len-entries (empty {X = X} {R = key_cmp})) ∙ len-empty key_cmp X))

  -- there are as many as stand in the list
  pub count_distinct : (es : List (Key × X)) → AreDistinct es → len (from_entries {R = key_cmp} es) ≡ length es
  count_distinct [] d = len-empty key_cmp X
  count_distinct (e ∷ es) d =
      len_put key_cmp_total (from_entries es) e.0 e.1 (get-from_entries key_cmp_total es e.0 ∙ head_none e es d)
      ∙ ap (λ n. n + 1) (count_distinct es (tail_distinct e es d)) ∙ omega arith

  -- a list in order has each key once
  pub sorted_distinct : (es : List (Key × X)) → is_sorted key_cmp es ≡ true → AreDistinct es
  sorted_distinct [] h = none_distinct X
  sorted_distinct (e ∷ es) h = more_distinct e es (none_below key_cmp_total e.0 es (first _ _ h)) (sorted_distinct es (second _ _ h))

  pub insert_put : (k : Key) (v : X) (es : List (Key × X)) → from_entries {R = key_cmp} (put key_cmp k v es) ≡ insert (from_entries es) k v
  insert_put k v es = same_map key_cmp_total key_cmp-IsAntisymmetric _ _ (λ q. get-from_entries key_cmp_total (put key_cmp k v es) q
      ∙ find-put key_cmp key_cmp_total q k v es
      ∙ sym (get-from_entries key_cmp_total ((k, v) ∷ es) q))
