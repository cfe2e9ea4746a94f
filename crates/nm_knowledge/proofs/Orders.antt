-- Knowledge after several messages and null messages is the least in which each is told.
use Rattle.std.proofs.Common.{◌≡◌, ℕ, zero, suc, ◌<◌, ◌≤◌, ◌⊎◌, max, Bool, List, [], ◌∷◌, ◌++◌, length, get_or, Option, Some, None, refl, sym, ap, ◌∙◌, subst, arith, ⊎_elim, length-append}
use Rattle.std.specs.List.{Contains}
use Rattle.nm_model.specs.Lists.{nth}
use Rattle.nm_model.specs.Knowledge.{Know, IsKnow, IsUnder}
use Rattle.nm_model.specs.Accept.{TellsApart, accept_data, accept_null}
use Rattle.nm_knowledge.specs.Order.{Tidings, Data, Null, accept, IsAccepted, AreAccepted, accept_all}
use Rattle.nm_model.proofs.Accepting as accepting
use Rattle.nm_model.proofs.ListLemmas.{below_nth, nth_last, prefix_self, prefix_trans, prefix_nth, nth_prefix, prefix_length, prefix_both, prefix_push}
use Rattle.nm_knowledge.proofs.Turns.{known_data, new_data, known_null, next_null}

sides : (m n : ℕ) → (m < n) ⊎ (n ≤ m)
sides m n = grind arith

module _ {P : Type 0} where
  under_both : (a b : Know P) → IsUnder a b → IsUnder b a → a ≡ b
  under_both a b u v =
      let l = prefix_both a.list b.list u.begins v.begins in
      let c : a.clock ≡ b.clock = let f = u.clock in let g = v.clock in omega arith in
      λ i. record { list = l i; clock = c i }

  -- a null message that tells nothing new
  record TellsNull (g : Know P) (n t : ℕ) : Type 0 where
    within : n ≤ length g.list
    later : (i : ℕ) (x : ℕ × P) → n ≤ i → nth g.list i ≡ Some x → t ≤ x.0
    clock : t ≤ g.clock

  abbrev IsTold : Know P → Tidings P → Type 0
  IsTold g (Data n b) = nth g.list n ≡ Some b
  IsTold g (Null n t) = TellsNull g n t

  -- what is told stays told
  told_above : (a b : Know P) (x : Tidings P) → IsUnder a b → IsTold a x → IsTold b x
  told_above a b (Data n m) u e = prefix_nth a.list b.list n m u.begins e
  told_above a b (Null n t) u h = record {
    within = let l = prefix_length a.list b.list u.begins in let w = h.within in omega arith;
    later = λ i y le e. ⊎_elim
        (λ lt. h.later i y le (nth_prefix a.list b.list i y u.begins lt e))
        (λ ge. let f = u.later i y ge e in let g = h.clock in omega arith)
        (sides i (length a.list));
    clock = let f = u.clock in let g = h.clock in omega arith;
  }

  module _ (same : P → P → Bool) (tells : TellsApart same) where
    -- what was accepted is told
    told_now : (a : Know P) (x : Tidings P) → IsKnow a → IsAccepted (accept same a x).answer → IsTold (accept same a x).after x
    told_now a (Data n b) k h = go (nth a.list n) refl
      where
        go : (o : Option (ℕ × P)) → nth a.list n ≡ o → nth (accept_data same a n b).after.list n ≡ Some b
        go (Some m) e = let r = known_data a n same tells b m e h in subst (λ (z : Know P). nth z.list n ≡ Some b) (sym r.1) (e ∙ ap (λ z. Some z) r.0)
        go None e =
            let r = new_data a n same b e h in
            subst (λ (z : Know P). nth z.list n ≡ Some b) (sym r.2) (ap (nth (a.list ++ b ∷ [])) r.0 ∙ nth_last a.list b)
    told_now a (Null n t) k h = go (nth a.list n) refl
      where
        known : (m : ℕ × P) → nth a.list n ≡ Some m → t ≤ m.0 → TellsNull a n t
        known m e le = record {
          within = let lt = below_nth a.list n m e in omega arith;
          later = λ i y ge f. ⊎_elim
              (λ lt. let g = k.rising n i m y lt e f in omega arith)
              (λ ge2.
              let at : i ≡ n = omega arith in
              let s : ◌≡◌ {A = Option (ℕ × P)} (Some m) (Some y) = sym e ∙ ap (nth a.list) (sym at) ∙ f in
              let z : m ≡ y = cc in
              let times = ap (λ (v : ℕ × P). v.0) z in omega arith)
              (sides n i);
          clock = let l = k.last n m e in omega arith;
        }

        next : n ≡ length a.list → TellsNull (record { list = a.list; clock = max a.clock t }) n t
        next e = record {
          within = omega arith;
          later = λ i y ge f. absurd (let lt = below_nth a.list i y f in omega arith);
          clock = omega arith;
        }

        go : (o : Option (ℕ × P)) → nth a.list n ≡ o → TellsNull (accept_null a n t).after n t
        go (Some m) e = let r = known_null a n t m e h in subst (λ (z : Know P). TellsNull z n t) (sym r.1) (known m e r.0)
        go None e = let r = next_null a n t e h in subst (λ (z : Know P). TellsNull z n t) (sym r.1) (next r.0)

    -- accepting what is told there stays under
    under_told : (a g : Know P) (x : Tidings P) → IsKnow g → IsUnder a g → IsTold g x → IsAccepted (accept same a x).answer → IsUnder (accept same a x).after g
    under_told a g (Data n b) k u told h = go (nth a.list n) refl
      where
        pushed : n ≡ length a.list → IsUnder (record { list = a.list ++ b ∷ []; clock = b.0 }) g
        pushed e = record {
          begins = prefix_push a.list g.list b u.begins (ap (nth g.list) (sym e) ∙ told);
          later = λ i y le f. let l = length-append a.list (b ∷ []) in let r = k.rising n i b y (omega arith) told f in omega arith;
          clock = k.last n b told;
        }

        go : (o : Option (ℕ × P)) → nth a.list n ≡ o → IsUnder (accept_data same a n b).after g
        go (Some m) e = let r = known_data a n same tells b m e h in subst (λ z. IsUnder z g) (sym r.1) u
        go None e = let r = new_data a n same b e h in subst (λ z. IsUnder z g) (sym r.2) (pushed r.0)
    under_told a g (Null n t) k u told h = go (nth a.list n) refl
      where
        raised : n ≡ length a.list → IsUnder (record { list = a.list; clock = max a.clock t }) g
        raised e = record {
          begins = u.begins;
          later = λ i y le f. let l = u.later i y le f in let m = told.later i y (omega arith) f in omega arith;
          clock = let l = u.clock in let m = told.clock in omega arith;
        }

        go : (o : Option (ℕ × P)) → nth a.list n ≡ o → IsUnder (accept_null a n t).after g
        go (Some m) e = let r = known_null a n t m e h in subst (λ z. IsUnder z g) (sym r.1) u
        go None e = let r = next_null a n t e h in subst (λ z. IsUnder z g) (sym r.1) (raised r.0)

    -- by the laws of accepting
    module _ (data_adds : (a : Know P) (n : ℕ) (b : ℕ × P) → IsUnder a (accept_data same a n b).after) (null_adds : (a : Know P) (n t : ℕ) → IsUnder a (accept_null a n t).after)
        (data_keeps : (a : Know P) (n : ℕ) (b : ℕ × P) → IsKnow a → IsKnow (accept_data same a n b).after) (null_keeps : (a : Know P) (n t : ℕ) → IsKnow a → IsKnow (accept_null a n t).after) where
      adds : (a : Know P) (x : Tidings P) → IsUnder a (accept same a x).after
      adds a (Data n b) = data_adds a n b
      adds a (Null n t) = null_adds a n t

      keeps : (a : Know P) (x : Tidings P) → IsKnow a → IsKnow (accept same a x).after
      keeps a (Data n b) = data_keeps a n b
      keeps a (Null n t) = null_keeps a n t

      all_keep : (k : List (Tidings P)) (a : Know P) → IsKnow a → IsKnow (accept_all same a k)
      all_keep [] a h = h
      all_keep (x ∷ k) a h = all_keep k (accept same a x).after (keeps a x h)

      all_add : (k : List (Tidings P)) (a : Know P) → IsUnder a (accept_all same a k)
      all_add [] a = record { begins = prefix_self a.list; later = λ i y le e. absurd (let lt = below_nth a.list i y e in omega arith); clock = omega arith }
      all_add (x ∷ k) a = accepting.under_both a (accept same a x).after (accept_all same (accept same a x).after k) (adds a x) (all_add k (accept same a x).after)

      each_told : (k : List (Tidings P)) (a : Know P) → IsKnow a → AreAccepted same a k → (x : Tidings P) → Contains k x → IsTold (accept_all same a k) x
      each_told [] a h f x c = absurd (let lt = c.1 in omega arith)
      each_told (y ∷ k) a h f x c = go c.0 c.1 c.2 (λ i lt e. each_told k (accept same a y).after (keeps a y h) f.1 x (i, lt, e))
        where
          go : (i : ℕ) → i < length (y ∷ k) → get_or (y ∷ k) i x ≡ x → ((i : ℕ) → i < length k → get_or k i x ≡ x → IsTold (accept_all same (accept same a y).after k) x) → IsTold (accept_all same a (y ∷ k)) x
          go zero lt e r = subst (λ z. IsTold (accept_all same (accept same a y).after k) z) e
              (told_above (accept same a y).after (accept_all same (accept same a y).after k) y (all_add k (accept same a y).after) (told_now a y h f.0))
          go (suc i) lt e r = r i (omega arith) e

      all_under : (k : List (Tidings P)) (a g : Know P) → IsKnow g → IsUnder a g → AreAccepted same a k → ((x : Tidings P) → Contains k x → IsTold g x) → IsUnder (accept_all same a k) g
      all_under [] a g h u f t = u
      all_under (x ∷ k) a g h u f t = all_under k (accept same a x).after g h
          (under_told a g x h u (t x (0, omega arith, refl)) f.0) f.1
          (λ y c. t y (suc c.0, let lt = c.1 in omega arith, c.2))

      pub any_order : (a : Know P) → IsKnow a → (k l : List (Tidings P)) → AreAccepted same a k → AreAccepted same a l → ((x : Tidings P) → Contains k x → Contains l x) → ((x : Tidings P) → Contains l x → Contains k x) → accept_all same a k ≡ accept_all same a l
      any_order a h k l f g to from = under_both (accept_all same a k) (accept_all same a l)
          (all_under k a (accept_all same a l) (all_keep l a h) (all_add l a) f (λ x c. each_told l a h g x (to x c)))
          (all_under l a (accept_all same a k) (all_keep k a h) (all_add k a) g (λ x c. each_told k a h f x (from x c)))
