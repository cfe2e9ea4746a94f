-- What a fault of two knowledges shows, and that there is none where they have a history in common.
use Rattle.std.proofs.Common.{◌≡◌, ◌≢◌, inl, inr, ℕ, zero, suc, ◌+◌, ◌<◌, ◌≤◌, ◌==◌, Bool, true, false, cond, ltb, List, [], ◌∷◌, ◌++◌, length, Option, Some, None, refl, sym, ap, ap₂, ◌∙◌, subst, arith, true≢false, ⊎_elim}
use Rattle.std.proofs.lemmas.Bool.{cases_lt}
use Rattle.std.proofs.lemmas.Bool.Decides.{nat_tests}
use Rattle.nm_model.specs.Lists.{nth, IsPrefix, IsRising}
use Rattle.nm_model.specs.Knowledge.{Knowledge, Know, IsKnow, nothing_known, IsValid, IsUnder, IsCompatible}
use Rattle.nm_model.specs.Accept.{Answer, New, Raised, Known, Gap, Differs, Late, NotRising, Accepted, IsReflexive, TellsApart, same_message, last_from, data_at, accept_data, null_at, accept_null}
use Rattle.nm_model.specs.Join.{first_differs, late_past, or_else, differs_at, join_fault, Shows, at_channel, join_faults, join}
use Rattle.nm_model.proofs.ListLemmas.{some_inj, no_less, below_or_at, number_is, below_nth, nth_below, nth_push, prefix_self}
use Rattle.nm_model.proofs.Invariants.{rising_push}
use Rattle.nm_model.proofs.Cut.{and_both}
use Rattle.nm_model.proofs.Accepting.{same_self}
use Rattle.nm_model.proofs.Joins.{join_case}

differs_none : (o : Option ℕ) → differs_at o ≡ None → o ≡ None
differs_none None e = refl
differs_none (Some n) e = absurd (cc)

pub left_none : {A : Type 0} (o p : Option A) → or_else o p ≡ None → o ≡ None
left_none None p e = refl
left_none (Some x) p e = absurd (cc)

pub right_none : {A : Type 0} (o p : Option A) → or_else o p ≡ None → p ≡ None
right_none None p e = e
right_none (Some x) p e = absurd (cc)

at_none : (n : ℕ) (o : Option Answer) → at_channel n o ≡ None → o ≡ None
at_none n None e = refl
at_none n (Some x) e = absurd (cc)

module _ {P : Type 0} where
  on_time : (t : ℕ) (o : Option (ℕ × P)) → late_past t o ≡ None → (x : ℕ × P) → o ≡ Some x → t ≤ x.0
  on_time t None e x f = absurd (cc)
  on_time t (Some m) e x f = let s : m ≡ x = cc in let u = ap (λ (v : ℕ × P). v.0) s in let le = no_less (Late t) t m.0 e in omega arith

  -- all past a number where the first is late enough
  rest_later : (t k : ℕ) (l : List (ℕ × P)) → IsRising l → ((x : ℕ × P) → nth l k ≡ Some x → t ≤ x.0) → (n : ℕ) (b : ℕ × P) → k ≤ n → nth l n ≡ Some b → t ≤ b.0
  rest_later t k l r h n b le e = ⊎_elim
      (λ lt. let below = below_nth l n b e in let x = nth_below l k (omega arith) in let a = h x.0 x.1 in let c = r k n x.0 b lt x.1 e in omega arith)
      (λ ge. let z : n ≡ k = omega arith in h b (ap (nth l) (sym z) ∙ e))
      (cases_lt k n)

  -- only what differs is told apart
  module _ (same : P → P → Bool) (eq : IsReflexive same) (tells : TellsApart same) where
    pub same_is : (x y : ℕ × P) → same_message same x y ≡ true → x ≡ y
    same_is x y h = let b = and_both _ _ h in let t = number_is x.0 y.0 b.0 in let p = tells x.1 y.1 b.1 in λ i. (t i, p i)

    agree : (n : ℕ) (k l : List (ℕ × P)) → first_differs same n k l ≡ None → length k ≤ length l → IsPrefix k l
    agree n [] l e le = (l, refl)
    agree n (x ∷ k) [] e le = absurd (omega arith)
    agree n (x ∷ k) (y ∷ l) e le = go (same_message same x y) refl e (λ f. agree (suc n) k l f (omega arith))
      where
        go : (z : Bool) → same_message same x y ≡ z → cond z (first_differs same (suc n) k l) (Some n) ≡ None → (first_differs same (suc n) k l ≡ None → IsPrefix k l) → IsPrefix (x ∷ k) (y ∷ l)
        go true g f rest = let r = rest f in let s = same_is x y g in (r.0, ap₂ (λ u v. u ∷ v) s r.1)
        go false g f rest = absurd (cc)

    differs_sym : (n : ℕ) (k l : List (ℕ × P)) → first_differs same n k l ≡ None → first_differs same n l k ≡ None
    differs_sym n [] [] e = refl
    differs_sym n [] (y ∷ l) e = refl
    differs_sym n (x ∷ k) [] e = refl
    differs_sym n (x ∷ k) (y ∷ l) e = go (same_message same x y) refl e (λ f. differs_sym (suc n) k l f)
      where
        go : (z : Bool) → same_message same x y ≡ z → cond z (first_differs same (suc n) k l) (Some n) ≡ None → (first_differs same (suc n) k l ≡ None → first_differs same (suc n) l k ≡ None) → cond (same_message same y x) (first_differs same (suc n) l k) (Some n) ≡ None
        go true g f rest = ap (λ v. cond v (first_differs same (suc n) l k) (Some n)) (same_self same eq y x (sym (same_is x y g))) ∙ rest f
        go false g f rest = absurd (cc)

    differ : (n m : ℕ) (k l : List (ℕ × P)) → first_differs same n k l ≡ Some m → (d : ℕ) × (x : ℕ × P) × (y : ℕ × P) × (m ≡ n + d) × (nth k d ≡ Some x) × (nth l d ≡ Some y) × (x ≢ y) × ((i : ℕ) → i < d → nth k i ≡ nth l i)
    differ n m [] l e = absurd (cc)
    differ n m (x ∷ k) [] e = absurd (cc)
    differ n m (x ∷ k) (y ∷ l) e = go (same_message same x y) refl e (λ f. differ (suc n) m k l f)
      where
        go : (z : Bool) → same_message same x y ≡ z → cond z (first_differs same (suc n) k l) (Some n) ≡ Some m → (first_differs same (suc n) k l ≡ Some m → (d : ℕ) × (x : ℕ × P) × (y : ℕ × P) × (m ≡ suc n + d) × (nth k d ≡ Some x) × (nth l d ≡ Some y) × (x ≢ y) × ((i : ℕ) → i < d → nth k i ≡ nth l i)) → (d : ℕ) × (x' : ℕ × P) × (y' : ℕ × P) × (m ≡ n + d) × (nth (x ∷ k) d ≡ Some x') × (nth (y ∷ l) d ≡ Some y') × (x' ≢ y') × ((i : ℕ) → i < d → nth (x ∷ k) i ≡ nth (y ∷ l) i)
        go false g f rest = let q : n ≡ m = cc in (0, x, y, omega arith, refl, refl, (λ s. true≢false (sym (same_self same eq x y s) ∙ g)), (λ i lt. absurd (omega arith)))
        go true g f rest = let r = rest f in (suc r.0, r.1, r.2, omega (arith, r.3), r.4, r.5, r.6, before r.0 r.7)
          where
            before : (d : ℕ) → ((i : ℕ) → i < d → nth k i ≡ nth l i) → (i : ℕ) → i < suc d → nth (x ∷ k) i ≡ nth (y ∷ l) i
            before d h zero lt = ap Some (same_is x y g)
            before d h (suc i) lt = h i (omega arith)

    late_shows : (t u : ℕ) (o : Option (ℕ × P)) (f : Answer) → late_past t o ≡ Some f → (x : ℕ × P) × (f ≡ Late t) × (o ≡ Some x) × (x.0 < t)
    late_shows t u None f e = absurd (cc)
    late_shows t u (Some m) f e = go (ltb m.0 t) refl e
      where
        go : (z : Bool) → ltb m.0 t ≡ z → cond z (Some (Late t)) None ≡ Some f → (x : ℕ × P) × (f ≡ Late t) × (Some m ≡ Some x) × (x.0 < t)
        go true g h = (m, (let q : Late t ≡ f = cc in sym q), refl, grind (arith, nat_tests))
        go false g h = absurd (cc)

    pub fault_shows : (a b : Know P) (f : Answer) → join_fault same a b ≡ Some f → Shows a b f
    fault_shows a b f e = go (first_differs same 0 a.list b.list) refl e
      where
        right : late_past b.clock (nth a.list (length b.list)) ≡ Some f → Shows a b f
        right h = let l = late_shows b.clock 0 (nth a.list (length b.list)) f h in inr (b.clock, l.1, inr (l.0, refl, l.2, l.3))

        past : (o : Option Answer) → late_past a.clock (nth b.list (length a.list)) ≡ o → or_else o (late_past b.clock (nth a.list (length b.list))) ≡ Some f → Shows a b f
        past None g h = right h
        past (Some x) g h =
            let s : x ≡ f = cc in
            let l = late_shows a.clock 0 (nth b.list (length a.list)) f (g ∙ ap Some s) in inr (a.clock, l.1, inl (l.0, refl, l.2, l.3))

        go : (o : Option ℕ) → first_differs same 0 a.list b.list ≡ o → or_else (differs_at o) (or_else (late_past a.clock (nth b.list (length a.list))) (late_past b.clock (nth a.list (length b.list)))) ≡ Some f → Shows a b f
        go None g h = past (late_past a.clock (nth b.list (length a.list))) refl h
        go (Some n) g h =
            let s : Differs n ≡ f = cc in
            let d = differ 0 n a.list b.list g in
            let z : d.0 ≡ n = omega (arith, d.3) in
            inl (n, sym s, (d.1, d.2, ap (nth a.list) (sym z) ∙ d.4, ap (nth b.list) (sym z) ∙ d.5, d.6, (λ m lt. d.7 m (omega arith))))

    -- a history of both is the longer list
    pub faultless_compatible : (a b : Know P) → IsKnow a → IsKnow b → join_fault same a b ≡ None → IsCompatible a b
    faultless_compatible a b ka kb e = ⊎_elim
        (λ lt. record { history = a.list; rising = ka.rising; left = whole a; right = longer b a (differs_sym 0 a.list b.list none) ka.rising (omega arith) right })
        (λ le. record { history = b.list; rising = kb.rising; left = longer a b none kb.rising le left; right = whole b })
        (cases_lt (length b.list) (length a.list))
      where
        none : first_differs same 0 a.list b.list ≡ None
        none = differs_none _ (left_none _ _ e)

        left : late_past a.clock (nth b.list (length a.list)) ≡ None
        left = left_none _ _ (right_none (differs_at (first_differs same 0 a.list b.list)) _ e)

        right : late_past b.clock (nth a.list (length b.list)) ≡ None
        right = right_none (late_past a.clock (nth b.list (length a.list))) _ (right_none (differs_at (first_differs same 0 a.list b.list)) _ e)

        whole : (x : Know P) → IsValid x x.list
        whole x = record { begins = prefix_self x.list; later = λ n b le g. absurd (let lt = below_nth x.list n b g in omega arith) }

        longer : (x y : Know P) → first_differs same 0 x.list y.list ≡ None → IsRising y.list → length x.list ≤ length y.list → late_past x.clock (nth y.list (length x.list)) ≡ None → IsValid x y.list
        longer x y h r le late = record { begins = agree 0 x.list y.list h le; later = λ n b ge g. rest_later x.clock (length x.list) y.list r (λ z q. on_time x.clock _ late z q) n b ge g }

  -- the first channel with a fault
  pub no_fault_below : (same : P → P → Bool) (K J : Knowledge P) (n : ℕ) → join_faults same K J n ≡ None → (c : ℕ) → c < n → join_fault same (K c) (J c) ≡ None
  no_fault_below same K J zero h c lt = absurd (omega arith)
  no_fault_below same K J (suc d) h c lt = ⊎_elim
      (λ le. no_fault_below same K J d (left_none (join_faults same K J d) (at_channel d (join_fault same (K d) (J d))) h) c le)
      (λ e. ap (λ z. join_fault same (K z) (J z)) e ∙ at_none d (join_fault same (K d) (J d)) (right_none (join_faults same K J d) (at_channel d (join_fault same (K d) (J d))) h))
      (below_or_at c d lt)

  pub first_fault : (same : P → P → Bool) (K J : Knowledge P) (n c : ℕ) (f : Answer) → join_faults same K J n ≡ Some (c, f) → (c < n) × (join_fault same (K c) (J c) ≡ Some f) × ((d : ℕ) → d < c → join_fault same (K d) (J d) ≡ None)
  first_fault same K J zero c f h = absurd (cc)
  first_fault same K J (suc d) c f h = go (join_faults same K J d) refl h (λ r. first_fault same K J d c f r)
    where
      at : (o : Option Answer) → join_fault same (K d) (J d) ≡ o → at_channel d o ≡ Some (c, f) → (d ≡ c) × (join_fault same (K d) (J d) ≡ Some f)
      at None g r = absurd (cc)
      at (Some x) g r = let s = some_inj {A = ℕ × Answer} (d, x) (c, f) r in (ap (λ z. z.0) s, g ∙ ap (λ z. Some z.1) s)

      go : (o : Option (ℕ × Answer)) → join_faults same K J d ≡ o → or_else o (at_channel d (join_fault same (K d) (J d))) ≡ Some (c, f) → (join_faults same K J d ≡ Some (c, f) → (c < d) × (join_fault same (K c) (J c) ≡ Some f) × ((e : ℕ) → e < c → join_fault same (K e) (J e) ≡ None)) → (c < suc d) × (join_fault same (K c) (J c) ≡ Some f) × ((e : ℕ) → e < c → join_fault same (K e) (J e) ≡ None)
      go (Some x) g r again = let i = again (g ∙ r) in (omega (arith, i.0), i.1, i.2)
      go None g r again =
          let a = at (join_fault same (K d) (J d)) refl r in
          (omega (arith, a.0), ap (λ z. join_fault same (K z) (J z)) (sym a.0) ∙ a.1, (λ e lt. no_fault_below same K J d g e (omega (arith, a.0))))

  -- what is under something that both are under
  pub under_compatible : (a b d : Know P) → IsUnder a d → IsUnder b d → IsRising d.list → IsCompatible a b
  under_compatible a b d u v r = record {
    history = d.list;
    rising = r;
    left = record { begins = u.begins; later = u.later };
    right = record { begins = v.begins; later = v.later };
  }

  -- knowledge that was come by stays so
  pub nothing_is_know : IsKnow (nothing_known {P = P})
  nothing_is_know = record { rising = λ m n a b lt e f. absurd (cc); last = λ n b e. absurd (cc) }

  last_below : (t : ℕ) (l : List (ℕ × P)) → last_from t l ≡ false → IsRising l → (n : ℕ) (x : ℕ × P) → nth l n ≡ Some x → x.0 < t
  last_below t [] h r n x e = absurd (cc)
  last_below t (y ∷ []) h r zero x e = let s : y ≡ x = cc in let z = ap (λ (v : ℕ × P). v.0) s in let lt : y.0 < t = grind (arith, nat_tests) in omega arith
  last_below t (y ∷ []) h r (suc n) x e = absurd (cc)
  last_below t (y ∷ z ∷ l) h r zero x e =
      let a = last_below t (z ∷ l) h (λ m n a b lt f g. r (suc m) (suc n) a b (omega arith) f g) 0 z refl in
      let b = r 0 1 x z (omega arith) e refl in omega arith
  last_below t (y ∷ z ∷ l) h r (suc n) x e = last_below t (z ∷ l) h (λ m n a b lt f g. r (suc m) (suc n) a b (omega arith) f g) n x e

  -- accepting keeps it so
  pub data_is_know : (same : P → P → Bool) (a : Know P) (n : ℕ) (b : ℕ × P) → IsKnow a → IsKnow (accept_data same a n b).after
  data_is_know same a n b k = go (nth a.list n)
    where
      taken : a.clock ≤ b.0 → last_from b.0 a.list ≡ false → IsKnow (record { list = a.list ++ b ∷ []; clock = b.0 })
      taken le h = record {
        rising = rising_push a.list b k.rising (λ m x e. last_below b.0 a.list h k.rising m x e);
        last = λ m x e. ⊎_elim
            (λ f. let l = k.last m x f in omega arith)
            (λ f. let z = ap (λ (v : ℕ × P). v.0) f.1 in omega arith)
            (nth_push a.list b x m e);
      }

      in_time : a.clock ≤ b.0 → (z : Bool) → last_from b.0 a.list ≡ z → IsKnow (cond {A = Accepted P} z (record { answer = NotRising; after = a }) (record { answer = New; after = record { list = a.list ++ b ∷ []; clock = b.0 } })).after
      in_time le true h = k
      in_time le false h = taken le h

      at_end : (z : Bool) → ltb b.0 a.clock ≡ z → IsKnow (cond z (record { answer = Late a.clock; after = a }) (cond {A = Accepted P} (last_from b.0 a.list) (record { answer = NotRising; after = a }) (record { answer = New; after = record { list = a.list ++ b ∷ []; clock = b.0 } }))).after
      at_end true h = k
      at_end false h = in_time (grind (arith, nat_tests)) (last_from b.0 a.list) refl

      counted : (z : Bool) → IsKnow (cond z (cond (ltb b.0 a.clock) (record { answer = Late a.clock; after = a }) (cond {A = Accepted P} (last_from b.0 a.list) (record { answer = NotRising; after = a }) (record { answer = New; after = record { list = a.list ++ b ∷ []; clock = b.0 } }))) (record { answer = Gap (length a.list); after = a })).after
      counted true = at_end (ltb b.0 a.clock) refl
      counted false = k

      go : (o : Option (ℕ × P)) → IsKnow (data_at same o a n b).after
      go (Some m) = k
      go None = counted (n == length a.list)

  pub null_is_know : (a : Know P) (n t : ℕ) → IsKnow a → IsKnow (accept_null a n t).after
  null_is_know a n t k = go (nth a.list n)
    where
      raised : (z : Bool) → ltb a.clock t ≡ z → IsKnow (cond {A = Accepted P} z (record { answer = Raised; after = record a { clock = t } }) (record { answer = Known; after = a })).after
      raised true h = record { rising = k.rising; last = λ m x e. let l = k.last m x e in let lt : a.clock < t = grind (arith, nat_tests) in omega arith }
      raised false h = k

      counted : (z : Bool) → IsKnow (cond z (cond {A = Accepted P} (ltb a.clock t) (record { answer = Raised; after = record a { clock = t } }) (record { answer = Known; after = a })) (record { answer = Gap (length a.list); after = a })).after
      counted true = raised (ltb a.clock t) refl
      counted false = k

      go : (o : Option (ℕ × P)) → IsKnow (null_at o a n t).after
      go (Some m) = k
      go None = counted (n == length a.list)

  pub join_is_know : (a b : Know P) → IsKnow a → IsKnow b → IsKnow (join a b)
  join_is_know a b ka kb = ⊎_elim
      (λ h. record { rising = subst IsRising (sym h.1) kb.rising; last = λ n x e. let l = kb.last n x (ap (λ z. nth z n) (sym h.1) ∙ e) in omega arith })
      (λ h. record { rising = subst IsRising (sym h.1) ka.rising; last = λ n x e. let l = ka.last n x (ap (λ z. nth z n) (sym h.1) ∙ e) in omega arith })
      (join_case a b)
