-- Joining knowledge.
use Rattle.std.proofs.Common.{◌≡◌, ◌⊎◌, inl, inr, ℕ, zero, suc, ◌<◌, ◌≤◌, max, Bool, true, false, cond, ltb, leb, List, [], ◌∷◌, ◌++◌, length, Option, Some, None, refl, sym, ap, ap₂, ◌∙◌, subst, arith, ⊎_elim, append-nil, length-append}
use Rattle.std.proofs.lemmas.Bool.Decides.{nat_tests}
use Rattle.nm_model.specs.Accept.{Late}
use Rattle.nm_model.specs.Knowledge.{Knowledge, Know, IsValid, IsUnder}
use Rattle.nm_model.specs.Join.{first_differs, late_past, or_else, differs_at, at_channel, join_fault, join_faults, join}
use Rattle.nm_model.specs.Lists.{nth, IsPrefix}
use Rattle.nm_model.proofs.ListLemmas.{prefix_nth, prefix_shorter}
use Rattle.nm_model.proofs.Accepting.{same_self}

module _ {A : Type 0} where
  no_rest : (xs ys rest : List A) → xs ++ rest ≡ ys → length xs ≡ length ys → xs ≡ ys
  no_rest xs ys [] e f = sym (append-nil xs) ∙ e
  no_rest xs ys (z ∷ rest) e f = absurd (let l = length-append xs (z ∷ rest) in let m = ap length e in omega arith)

  pub prefix_same : (xs ys zs : List A) → IsPrefix xs zs → IsPrefix ys zs → length xs ≡ length ys → xs ≡ ys
  prefix_same xs ys zs a b e = let r = prefix_shorter xs ys zs a b (omega arith) in no_rest xs ys r.0 r.1 e

module _ {P : Type 0} where
  pub know_same : (a b : Know P) → a.list ≡ b.list → a.clock ≡ b.clock → a ≡ b
  know_same a b e f = λ i. record { list = e i; clock = f i }

  pub join_case : (a b : Know P) → ((length a.list ≤ length b.list) × ((join a b).list ≡ b.list)) ⊎ ((length b.list < length a.list) × ((join a b).list ≡ a.list))
  join_case a b = go (leb (length a.list) (length b.list)) refl
    where
      go : (z : Bool) → leb (length a.list) (length b.list) ≡ z → ((length a.list ≤ length b.list) × (cond z b.list a.list ≡ b.list)) ⊎ ((length b.list < length a.list) × (cond z b.list a.list ≡ a.list))
      go true e = inl (grind (arith, nat_tests), refl)
      go false e = inr (grind (arith, nat_tests), refl)

  join_length : (a b : Know P) → length (join a b).list ≡ max (length a.list) (length b.list)
  join_length a b = ⊎_elim (λ h. let e = ap length h.1 in omega (arith, h.0)) (λ h. let e = ap length h.1 in omega (arith, h.0)) (join_case a b)

  pub join_self : (a : Know P) → join a a ≡ a
  join_self a = know_same (join a a) a (⊎_elim (λ h. h.1) (λ h. h.1) (join_case a a)) (omega arith)

  -- it is under whatever both are under
  pub join_least : (a b d : Know P) → IsUnder a d → IsUnder b d → IsUnder (join a b) d
  join_least a b d u v = record {
    begins = ⊎_elim (λ h. subst (λ l. IsPrefix l d.list) (sym h.1) v.begins) (λ h. subst (λ l. IsPrefix l d.list) (sym h.1) u.begins) (join_case a b);
    later = λ n x le e.
        let l = join_length a b in
        let i = u.later n x (omega arith) e in
        let j = v.later n x (omega arith) e in omega arith;
    clock = let i = u.clock in let j = v.clock in omega arith;
  }

  -- knowledge valid for one history
  module _ (H : List (ℕ × P)) where
    pub join_valid : (a b : Know P) → IsValid a H → IsValid b H → IsValid (join a b) H
    join_valid a b u v = record {
      begins = ⊎_elim (λ h. subst (λ l. IsPrefix l H) (sym h.1) v.begins) (λ h. subst (λ l. IsPrefix l H) (sym h.1) u.begins) (join_case a b);
      later = λ n x le e.
          let l = join_length a b in
          let i = u.later n x (omega arith) e in
          let j = v.later n x (omega arith) e in omega arith;
    }

    pub join_comm : (a b : Know P) → IsValid a H → IsValid b H → join a b ≡ join b a
    join_comm a b u v = know_same (join a b) (join b a)
        (prefix_same _ _ H (join_valid a b u v).begins (join_valid b a v u).begins (let i = join_length a b in let j = join_length b a in omega arith))
        (omega arith)

    pub join_assoc : (a b d : Know P) → IsValid a H → IsValid b H → IsValid d H → join (join a b) d ≡ join a (join b d)
    join_assoc a b d u v w = know_same (join (join a b) d) (join a (join b d))
        (prefix_same _ _ H (join_valid (join a b) d (join_valid a b u v) w).begins (join_valid a (join b d) u (join_valid b d v w)).begins
        (let i = join_length (join a b) d in let j = join_length a (join b d) in let k = join_length a b in let l = join_length b d in omega arith))
        (omega arith)

    pub left_under : (a b : Know P) → IsValid a H → IsValid b H → IsUnder a (join a b)
    left_under a b u v = record {
      begins = prefix_shorter _ _ H u.begins (join_valid a b u v).begins (let i = join_length a b in omega arith);
      later = λ n x le e. u.later n x le (prefix_nth _ _ n x (join_valid a b u v).begins e);
      clock = omega arith;
    }

    pub right_under : (a b : Know P) → IsValid a H → IsValid b H → IsUnder b (join a b)
    right_under a b u v = record {
      begins = prefix_shorter _ _ H v.begins (join_valid a b u v).begins (let i = join_length a b in omega arith);
      later = λ n x le e. v.later n x le (prefix_nth _ _ n x (join_valid a b u v).begins e);
      clock = omega arith;
    }

    -- no fault
    late_none : (a b : Know P) → IsValid a H → IsValid b H → (o : Option (ℕ × P)) → nth b.list (length a.list) ≡ o → late_past a.clock o ≡ None
    late_none a b u v None e = refl
    late_none a b u v (Some m) e = go (ltb m.0 a.clock) refl
      where
        go : (z : Bool) → ltb m.0 a.clock ≡ z → cond z (Some (Late a.clock)) None ≡ None
        go true f = absurd (let g = prefix_nth _ _ _ m v.begins e in let l = u.later (length a.list) m (omega arith) g in let lt : m.0 < a.clock = grind (arith, nat_tests) in omega arith)
        go false f = refl

    module _ (same : P → P → Bool) (eq : (x : P) → same x x ≡ true) where
      differs_none : (n : ℕ) (k l h : List (ℕ × P)) → IsPrefix k h → IsPrefix l h → first_differs same n k l ≡ None
      differs_none n [] l h a b = refl
      differs_none n (x ∷ k) [] h a b = refl
      differs_none n (x ∷ k) (y ∷ l) [] a b = absurd (let e = a.1 in cc)
      differs_none n (x ∷ k) (y ∷ l) (z ∷ h) a b =
          let e = a.1 in let f = b.1 in
          let e1 : k ++ a.0 ≡ h = cc in
          let f1 : l ++ b.0 ≡ h = cc in
          let g : x ≡ y = cc in
          ap (λ t. cond t (first_differs same (suc n) k l) (Some n)) (same_self same eq x y g) ∙ differs_none (suc n) k l h (a.0, e1) (b.0, f1)

      pub join_faultless : (a b : Know P) → IsValid a H → IsValid b H → join_fault same a b ≡ None
      join_faultless a b u v =
          ap (λ o. or_else (differs_at o) (or_else (late_past a.clock (nth b.list (length a.list))) (late_past b.clock (nth a.list (length b.list))))) (differs_none 0 a.list b.list H u.begins v.begins)
          ∙ ap₂ (λ o p. or_else o p) (late_none a b u v _ refl) (late_none b a v u _ refl)

  -- of all channels
  pub no_faults : (same : P → P → Bool) (K J : Knowledge P) (n : ℕ) → ((c : ℕ) → join_fault same (K c) (J c) ≡ None) → join_faults same K J n ≡ None
  no_faults same K J zero h = refl
  no_faults same K J (suc c) h = ap₂ (λ a o. or_else a (at_channel c o)) (no_faults same K J c h) (h c)
