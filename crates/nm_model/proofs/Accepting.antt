-- What accepting frames and joining do to knowledge that is valid for a history.
use Rattle.std.proofs.Common.{◌≡◌, inl, inr, ℕ, suc, ◌<◌, ◌≤◌, Bool, true, false, cond, ltb, ◌==◌, List, [], ◌∷◌, ◌++◌, length, Option, Some, None, refl, sym, ap, ◌∙◌, subst, arith, true≢false, ⊎_elim, length-append}
use Rattle.std.proofs.lemmas.Bool.{cases_lt}
use Rattle.std.proofs.lemmas.Bool.Decides.{nat_tests}
use Rattle.nm_model.specs.Accept.{New, Known, Raised, Gap, Differs, Late, NotRising, Contrary, Accepted, last_from, same_message, data_at, accept_data, null_at, accept_null}
use Rattle.nm_model.specs.Knowledge.{Knowledge, Know, IsValid, IsUnder}
use Rattle.nm_model.specs.Lists.{nth, IsRising, set_at}
use Rattle.nm_model.specs.Network.{Net}
use Rattle.nm_model.specs.Replica.{IsUnderAll}
use Rattle.nm_model.specs.World.{IsFine}
use Rattle.nm_model.proofs.ListLemmas.{number_tied, same_number, set_here, set_there, below_nth, nth_prefix, nth_push, prefix_nth, prefix_push, prefix_self, prefix_trans}
use Rattle.nm_model.proofs.Cut.{and_true}

module _ {P : Type 0} where
  pub last_is : (t : ℕ) (l : List (ℕ × P)) → last_from t l ≡ true → (i : ℕ) × (m : ℕ × P) × (suc i ≡ length l) × (nth l i ≡ Some m) × (t ≤ m.0)
  last_is t [] h = absurd (true≢false (sym h))
  last_is t (x ∷ []) h = (0, x, omega arith, refl, grind (arith, nat_tests))
  last_is t (x ∷ y ∷ l) h = let r = last_is t (y ∷ l) h in (suc r.0, r.1, omega (arith, r.2), r.3, r.4)

  pub under_self : (a : Know P) → IsUnder a a
  under_self a = record { begins = prefix_self a.list; later = λ n x le e. absurd (let lt = below_nth a.list n x e in omega arith); clock = omega arith }

  pub under_both : (a b d : Know P) → IsUnder a b → IsUnder b d → IsUnder a d
  under_both a b d h k = record {
    begins = prefix_trans a.list b.list d.list h.begins k.begins;
    later = λ n x le e. ⊎_elim
        (λ lt. h.later n x le (nth_prefix b.list d.list n x k.begins lt e))
        (λ ge. let up = k.later n x ge e in let c = h.clock in omega arith)
        (cases_lt n (length b.list));
    clock = let c = h.clock in let e = k.clock in omega arith;
  }

  pub valid_next : (a : Know P) (H : List (ℕ × P)) → IsRising H → IsValid a H → (b : ℕ × P) → nth H (length a.list) ≡ Some b → IsValid (record { list = a.list ++ b ∷ []; clock = b.0 }) H
  valid_next a H rising v b e = record {
    begins = prefix_push a.list H b v.begins e;
    later = λ n x le f. let l = length-append a.list (b ∷ []) in let r = rising (length a.list) n b x (omega arith) e f in omega arith;
  }

  -- raised to a clock that the history keeps
  valid_raised : (a : Know P) (H : List (ℕ × P)) → IsValid a H → (t : ℕ) → ((n : ℕ) (x : ℕ × P) → length a.list ≤ n → nth H n ≡ Some x → t ≤ x.0) → IsValid (record a { clock = t }) H
  valid_raised a H v t h = record { begins = v.begins; later = h }

  module _ (same : P → P → Bool) where
    pub data_under : (a : Know P) (n : ℕ) (b : ℕ × P) → IsUnder a (accept_data same a n b).after
    data_under a n b = go (nth a.list n)
      where
        go : (o : Option (ℕ × P)) → IsUnder a (data_at same o a n b).after
        go (Some m) = under_self a
        go None = elim (n == length a.list) as (λ z. IsUnder a (cond z (cond (ltb b.0 a.clock) (record { answer = Late a.clock; after = a }) (cond {A = Accepted P} (last_from b.0 a.list) (record { answer = NotRising; after = a }) (record { answer = New; after = record { list = a.list ++ b ∷ []; clock = b.0 } }))) (record { answer = Gap (length a.list); after = a })).after) [ true ↦ timed (ltb b.0 a.clock) refl | false ↦ under_self a ]
          where
            taken : a.clock ≤ b.0 → IsUnder a (record { list = a.list ++ b ∷ []; clock = b.0 })
            taken h = record {
              begins = (b ∷ [], refl);
              later = λ i x le e. ⊎_elim (λ f. absurd (let lt = below_nth a.list i x f in omega arith)) (λ f. let t = ap (λ z. z.0) f.1 in omega arith) (nth_push a.list b x i e);
              clock = h;
            }

            timed : (z : Bool) → ltb b.0 a.clock ≡ z → IsUnder a (cond z (record { answer = Late a.clock; after = a }) (cond {A = Accepted P} (last_from b.0 a.list) (record { answer = NotRising; after = a }) (record { answer = New; after = record { list = a.list ++ b ∷ []; clock = b.0 } }))).after
            timed true e = under_self a
            timed false e = let h : a.clock ≤ b.0 = grind (arith, nat_tests) in elim (last_from b.0 a.list) as (λ z. IsUnder a (cond {A = Accepted P} z (record { answer = NotRising; after = a }) (record { answer = New; after = record { list = a.list ++ b ∷ []; clock = b.0 } })).after) [ true ↦ under_self a | false ↦ taken h ]

    pub same_self : ((x : P) → same x x ≡ true) → (a b : ℕ × P) → a ≡ b → same_message same a b ≡ true
    same_self eq a b e = subst (λ z. same_message same a z ≡ true) e (and_true _ _ (number_tied a.0) (eq a.1))

    -- a true message
    pub data_valid : ((x : P) → same x x ≡ true) → (a : Know P) (H : List (ℕ × P)) → IsRising H → IsValid a H → (n : ℕ) (b : ℕ × P) → nth H n ≡ Some b → IsFine (accept_data same a n b).answer × IsValid (accept_data same a n b).after H
    data_valid eq a H rising v n b e = go (nth a.list n) refl
      where
        go : (o : Option (ℕ × P)) → nth a.list n ≡ o → IsFine (data_at same o a n b).answer × IsValid (data_at same o a n b).after H
        go (Some m) f =
            let g = prefix_nth _ _ n m v.begins f in
            let mb : m ≡ b = cc in
            (inr (inr (inl (ap (λ z. cond z Known (Differs n)) (same_self eq m b mb)))), v)
        go None f = at_length (n == length a.list) refl
          where
            inside : n ≡ length a.list → nth H (length a.list) ≡ Some b
            inside z = ap (nth H) (sym z) ∙ e

            timed : n ≡ length a.list → (z : Bool) → ltb b.0 a.clock ≡ z → IsFine (cond z (record { answer = Late a.clock; after = a }) (cond {A = Accepted P} (last_from b.0 a.list) (record { answer = NotRising; after = a }) (record { answer = New; after = record { list = a.list ++ b ∷ []; clock = b.0 } }))).answer × IsValid (cond z (record { answer = Late a.clock; after = a }) (cond {A = Accepted P} (last_from b.0 a.list) (record { answer = NotRising; after = a }) (record { answer = New; after = record { list = a.list ++ b ∷ []; clock = b.0 } }))).after H
            timed z true g = absurd (let l = v.later n b (omega arith) e in let lt : b.0 < a.clock = grind (arith, nat_tests) in omega arith)
            timed z false g = rises (last_from b.0 a.list) refl
              where
                rises : (y : Bool) → last_from b.0 a.list ≡ y → IsFine (cond {A = Accepted P} y (record { answer = NotRising; after = a }) (record { answer = New; after = record { list = a.list ++ b ∷ []; clock = b.0 } })).answer × IsValid (cond {A = Accepted P} y (record { answer = NotRising; after = a }) (record { answer = New; after = record { list = a.list ++ b ∷ []; clock = b.0 } })).after H
                rises true i = absurd (
                    let l = last_is b.0 a.list i in
                    let h = prefix_nth _ _ l.0 l.1 v.begins l.3 in
                    let r = rising l.0 n l.1 b (omega (arith, l.2)) h e in omega (arith, l.4))
                rises false i = (inl refl, valid_next a H rising v b (inside z))

            at_length : (z : Bool) → (n == length a.list) ≡ z → IsFine (cond z (cond (ltb b.0 a.clock) (record { answer = Late a.clock; after = a }) (cond {A = Accepted P} (last_from b.0 a.list) (record { answer = NotRising; after = a }) (record { answer = New; after = record { list = a.list ++ b ∷ []; clock = b.0 } }))) (record { answer = Gap (length a.list); after = a })).answer × IsValid (cond z (cond (ltb b.0 a.clock) (record { answer = Late a.clock; after = a }) (cond {A = Accepted P} (last_from b.0 a.list) (record { answer = NotRising; after = a }) (record { answer = New; after = record { list = a.list ++ b ∷ []; clock = b.0 } }))) (record { answer = Gap (length a.list); after = a })).after H
            at_length true g = timed (grind (arith, nat_tests)) (ltb b.0 a.clock) refl
            at_length false g = (inr (inr (inr (length a.list, refl))), v)

  -- null messages
  pub null_under : (a : Know P) (n t : ℕ) → IsUnder a (accept_null a n t).after
  null_under a n t = go (nth a.list n)
    where
      go : (o : Option (ℕ × P)) → IsUnder a (null_at o a n t).after
      go (Some m) = under_self a
      go None = elim (n == length a.list) as (λ z. IsUnder a (cond z (cond {A = Accepted P} (ltb a.clock t) (record { answer = Raised; after = record a { clock = t } }) (record { answer = Known; after = a })) (record { answer = Gap (length a.list); after = a })).after) [ true ↦ raised (ltb a.clock t) refl | false ↦ under_self a ]
        where
          raised : (z : Bool) → ltb a.clock t ≡ z → IsUnder a (cond {A = Accepted P} z (record { answer = Raised; after = record a { clock = t } }) (record { answer = Known; after = a })).after
          raised true e = record { begins = prefix_self a.list; later = λ i x le f. absurd (let lt = below_nth a.list i x f in omega arith); clock = grind (arith, nat_tests) }
          raised false e = under_self a

  -- a true null message
  pub null_valid : (a : Know P) (H : List (ℕ × P)) → IsValid a H → (n t : ℕ) → ((i : ℕ) (x : ℕ × P) → n ≤ i → nth H i ≡ Some x → t ≤ x.0) → IsFine (accept_null a n t).answer × IsValid (accept_null a n t).after H
  null_valid a H v n t h = go (nth a.list n) refl
    where
      go : (o : Option (ℕ × P)) → nth a.list n ≡ o → IsFine (null_at o a n t).answer × IsValid (null_at o a n t).after H
      go (Some m) f = ((elim (ltb m.0 t) as (λ z. ltb m.0 t ≡ z → IsFine (cond z (Contrary n) Known)) [ true ↦ λ e. absurd (let g = prefix_nth _ _ n m v.begins f in let l = h n m (omega arith) g in let lt : m.0 < t = grind (arith, nat_tests) in omega arith) | false ↦ λ e. inr (inr (inl refl)) ]) refl, v)
      go None f = at_length (n == length a.list) refl
        where
          raised : n ≡ length a.list → (z : Bool) → IsFine (cond {A = Accepted P} z (record { answer = Raised; after = record a { clock = t } }) (record { answer = Known; after = a })).answer × IsValid (cond {A = Accepted P} z (record { answer = Raised; after = record a { clock = t } }) (record { answer = Known; after = a })).after H
          raised z true = (inr (inl refl), valid_raised a H v t (λ i x le e. h i x (omega arith) e))
          raised z false = (inr (inr (inl refl)), v)

          at_length : (z : Bool) → (n == length a.list) ≡ z → IsFine (cond z (cond {A = Accepted P} (ltb a.clock t) (record { answer = Raised; after = record a { clock = t } }) (record { answer = Known; after = a })) (record { answer = Gap (length a.list); after = a })).answer × IsValid (cond z (cond {A = Accepted P} (ltb a.clock t) (record { answer = Raised; after = record a { clock = t } }) (record { answer = Known; after = a })) (record { answer = Gap (length a.list); after = a })).after H
          at_length true g = raised (grind (arith, nat_tests)) (ltb a.clock t)
          at_length false g = (inr (inr (inr (length a.list, refl))), v)

module _ {P N : Type 0} (net : Net P N) (p : ℕ) (K : Knowledge P) where
  pub under_set : (c : ℕ) (a : Know P) → IsUnder (K c) a → IsUnderAll net p K (set_at K c a)
  under_set c a u d ch = ⊎_elim
      (λ e. subst (λ z. IsUnder (K z) ((set_at K c a) z)) (sym e) (subst (IsUnder (K c)) (sym (set_here K c a)) u))
      (λ e. subst (IsUnder (K d)) (sym (set_there K c a d e)) (under_self (K d)))
      (same_number d c)
