-- The order of keys, and what a map from keys answers.
use Rattle.std.proofs.Common.{◌≡◌, ◌≢◌, ◌⊎◌, inl, inr, ℕ, ◌<◌, ◌≤◌, Bool, true, false, cond, T, List, [], ◌∷◌, Option, Some, None, refl, sym, ap, ◌∙◌, subst, arith, ◌&&◌, true≢false, ⊎_elim}
use Rattle.std.proofs.lemmas.Bool.{cases_lt}
use Rattle.std.proofs.lemmas.Bool.Decides.{nat_tests}
use Rattle.std.proofs.Common.{Ordering, Less, Equal, Greater}
use Rattle.std.specs.Ordering.{nat_cmp, is_gt, is_lt, is_eq, eq_by_cmp, ordering_then, ordering_reverse}
use Rattle.std.specs.Cmp.{tied_itself}
use Rattle.std.specs.Cmp.Lexicographic.{slice_cmp}
use Rattle.std.specs.FinMap.{FinMap, entries, entries_sorted, get, insert, remove, empty, find, is_sorted, get-entries, get-empty, get-insert, get-remove, same_map}
use Rattle.std.specs.FinMap.Entries.{below_all}
use Rattle.nm_base.specs.declared.key.Place.{Place}
use Rattle.nm_base.specs.declared.key.Key.{Key}
use Rattle.nm_base.specs.Key.{key_of, class_of, index_of, end_of, key_cmp, key_cmp_total, key_cmp-IsAntisymmetric}
use Rattle.nm_model.specs.EventList.{IsUpTo, first_of_list, least}

pub same_key : (a b : Key) → a.time ≡ b.time → a.place ≡ b.place → a.number ≡ b.number → a ≡ b
same_key a b e f g = λ i. record { time = e i; place = f i; number = g i }

pub key_at : (q : Key) (p : Place) → q.place ≡ p → q ≡ key_of q.time p q.number
key_at q p e = λ i. record { time = q.time; place = e i; number = q.number }

equal_of : (r : Ordering) → is_eq r ≡ true → r ≡ Equal
equal_of Less e = absurd (true≢false (sym e))
equal_of Equal e = refl
equal_of Greater e = absurd (true≢false (sym e))

pub key_decides : (a b : Key) → (a ≡ b) ⊎ (a ≢ b)
key_decides a b = go (eq_by_cmp key_cmp a b) refl
  where
    go : (r : Bool) → eq_by_cmp key_cmp a b ≡ r → (a ≡ b) ⊎ (a ≢ b)
    go true e = inl (key_cmp-IsAntisymmetric a b (equal_of _ e))
    go false e = inr (λ f. true≢false (sym (ap is_eq (tied_itself key_cmp_total a)) ∙ ap (eq_by_cmp key_cmp a) f ∙ e))

pub tied : (a : Key) → eq_by_cmp key_cmp a a ≡ true
tied a = ap is_eq (tied_itself key_cmp_total a)

pub apart : (a b : Key) → a ≢ b → eq_by_cmp key_cmp a b ≡ false
apart a b h = go (eq_by_cmp key_cmp a b) refl
  where
    go : (r : Bool) → eq_by_cmp key_cmp a b ≡ r → r ≡ false
    go true e = absurd (h (key_cmp-IsAntisymmetric a b (equal_of _ e)))
    go false e = refl

-- times and the order
later_nat : (s t : ℕ) → s < t → nat_cmp s t ≡ Less
later_nat s t h = grind (arith, nat_tests)

abbrev after_time : Key → List ℕ
after_time k = class_of k.place ∷ index_of k.place ∷ end_of k.place ∷ k.number ∷ []

pub earlier : (a b : Key) → a.time < b.time → key_cmp a b ≡ Less
unfolding key_cmp
earlier a b h = ap (λ r. ordering_then r (slice_cmp nat_cmp (after_time a) (after_time b))) (later_nat a.time b.time h)

pub up_to_earlier : (a b : Key) → a.time < b.time → IsUpTo a b
unfolding IsUpTo
up_to_earlier a b h = ap is_gt (earlier a b h)

pub up_to_time : (a b : Key) → IsUpTo a b → a.time ≤ b.time
unfolding IsUpTo
up_to_time a b h = ⊎_elim
    (λ lt. absurd (true≢false (sym (ap is_gt (key_cmp_total.antisymm a b ∙ ap ordering_reverse (earlier b a lt))) ∙ h)))
    (λ le. le)
    (cases_lt b.time a.time)

two_ways : (r s : Ordering) → r ≡ ordering_reverse s → is_gt r ≡ false → is_gt s ≡ false → r ≡ Equal
two_ways Less Less e h k = absurd (cc)
two_ways Less Equal e h k = absurd (cc)
two_ways Less Greater e h k = absurd (true≢false k)
two_ways Equal s e h k = refl
two_ways Greater s e h k = absurd (true≢false h)

pub up_to_both : (a b : Key) → IsUpTo a b → IsUpTo b a → a ≡ b
unfolding IsUpTo
up_to_both a b h k = key_cmp-IsAntisymmetric a b (two_ways (key_cmp a b) (key_cmp b a) (key_cmp_total.antisymm a b) h k)

pub up_to_self : (a : Key) → IsUpTo a a
unfolding IsUpTo
up_to_self a = ap is_gt (tied_itself key_cmp_total a)

less_up_to : (a b : Key) → T (is_lt (key_cmp a b)) → IsUpTo a b
unfolding IsUpTo
less_up_to a b h = go (key_cmp a b) h
  where
    go : (r : Ordering) → T (is_lt r) → is_gt r ≡ false
    go Less t = refl
    go Equal t = absurd t
    go Greater t = absurd t

pub front_holds : (a b : Bool) → T (a && b) → T a
front_holds true b h = tt
front_holds false b h = h

pub back_holds : (a b : Bool) → T (a && b) → T b
back_holds true b h = h
back_holds false b h = absurd h

-- maps
module _ {X : Type 0} where
  pub get_empty : (q : Key) → get (empty {X = X} {R = key_cmp}) q ≡ None
  get_empty q = get-empty key_cmp q

  pub insert_same : (m : FinMap key_cmp X) (k : Key) (v : X) → get (insert m k v) k ≡ Some v
  insert_same m k v = get-insert key_cmp_total m k v k ∙ ap (λ b. cond b (Some v) (get m k)) (tied k)

  pub insert_other : (m : FinMap key_cmp X) (k : Key) (v : X) (q : Key) → q ≢ k → get (insert m k v) q ≡ get m q
  insert_other m k v q h = get-insert key_cmp_total m k v q ∙ ap (λ b. cond b (Some v) (get m q)) (apart q k h)

  pub remove_same : (m : FinMap key_cmp X) (k : Key) → get (remove m k) k ≡ None
  remove_same m k = get-remove key_cmp_total m k k ∙ ap (λ b. cond b None (get m k)) (tied k)

  pub remove_other : (m : FinMap key_cmp X) (k q : Key) → q ≢ k → get (remove m k) q ≡ get m q
  remove_other m k q h = get-remove key_cmp_total m k q ∙ ap (λ b. cond b None (get m q)) (apart q k h)

  pub same_events : (m n : FinMap key_cmp X) → ((q : Key) → get m q ≡ get n q) → m ≡ n
  same_events m n h = same_map key_cmp_total key_cmp-IsAntisymmetric m n h

  least_none_by : (es : List (Key × X)) (q : Key) → first_of_list es ≡ None → find key_cmp q es ≡ None
  least_none_by [] q e = refl
  least_none_by (x ∷ es) q e = absurd (cc)

  pub least_none : (m : FinMap key_cmp X) (q : Key) → least m ≡ None → get m q ≡ None
  unfolding least
  least_none m q e = get-entries m q ∙ least_none_by (entries m) q e

  least_has_by : (es : List (Key × X)) (x : Key × X) → first_of_list es ≡ Some x → find key_cmp x.0 es ≡ Some x.1
  least_has_by [] x e = absurd (cc)
  least_has_by (y ∷ es) x e =
      let f : y ≡ x = cc in
      subst (λ z. find key_cmp z.0 (y ∷ es) ≡ Some z.1) f (ap (λ b. cond b (Some y.1) (find key_cmp y.0 es)) (tied y.0))

  pub least_has : (m : FinMap key_cmp X) (x : Key × X) → least m ≡ Some x → get m x.0 ≡ Some x.1
  unfolding least
  least_has m x e = get-entries m x.0 ∙ least_has_by (entries m) x e

  found_after : (k q : Key) (v : X) (es : List (Key × X)) → T (below_all key_cmp k es) → find key_cmp q es ≡ Some v → IsUpTo k q
  found_after k q v [] h e = absurd (cc)
  found_after k q v (x ∷ es) h e = go (λ f. found_after k q v es (back_holds _ _ h) f) (eq_by_cmp key_cmp q x.0) refl
    where
      go : (find key_cmp q es ≡ Some v → IsUpTo k q) → (r : Bool) → eq_by_cmp key_cmp q x.0 ≡ r → IsUpTo k q
      go rest true t = subst (IsUpTo k) (sym (key_cmp-IsAntisymmetric q x.0 (equal_of _ t))) (less_up_to k x.0 (front_holds _ _ h))
      go rest false t = rest (sym (ap (λ b. cond b (Some x.1) (find key_cmp q es)) t) ∙ e)

  least_min_by : (es : List (Key × X)) (x : Key × X) (q : Key) (v : X) → T (is_sorted key_cmp es) → first_of_list es ≡ Some x → find key_cmp q es ≡ Some v → IsUpTo x.0 q
  least_min_by [] x q v s e f = absurd (cc)
  least_min_by (y ∷ es) x q v s e f = subst (λ z. IsUpTo z.0 q) same (go (eq_by_cmp key_cmp q y.0) refl)
    where
      same : y ≡ x
      same = cc

      go : (r : Bool) → eq_by_cmp key_cmp q y.0 ≡ r → IsUpTo y.0 q
      go true t = subst (IsUpTo y.0) (sym (key_cmp-IsAntisymmetric q y.0 (equal_of _ t))) (up_to_self y.0)
      go false t = found_after y.0 q v es (front_holds _ _ s) (sym (ap (λ b. cond b (Some y.1) (find key_cmp q es)) t) ∙ f)

  pub least_min : (m : FinMap key_cmp X) (x : Key × X) (q : Key) (v : X) → least m ≡ Some x → get m q ≡ Some v → IsUpTo x.0 q
  unfolding least
  least_min m x q v e f = least_min_by (entries m) x q v (entries_sorted m) e (sym (get-entries m q) ∙ f)

  pub least_is : (m : FinMap key_cmp X) (k : Key) (v : X) → get m k ≡ Some v → ((q : Key) (w : X) → get m q ≡ Some w → IsUpTo k q) → least m ≡ Some (k, v)
  least_is m k v e h = go (least m) refl
    where
      go : (o : Option (Key × X)) → least m ≡ o → least m ≡ Some (k, v)
      go None f = let g = least_none m k f in absurd (cc)
      go (Some x) f =
          let has = least_has m x f in
          let same : x.0 ≡ k = up_to_both x.0 k (least_min m x k v f e) (h x.0 x.1 has) in
          let had : get m x.0 ≡ Some v = ap (get m) same ∙ e in
          let value : x.1 ≡ v = cc in
          f ∙ ap Some (λ i. (same i, value i))
