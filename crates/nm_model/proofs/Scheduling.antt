-- What is pending once events were put.
use Rattle.std.proofs.Common.{◌≡◌, ◌≢◌, ◌⊎◌, inl, inr, Bool, true, false, cond, List, [], ◌∷◌, ◌++◌, Some, refl, sym, ap, ◌∙◌, subst, true≢false, ⊎_elim}
use Rattle.std.specs.FinMap.{FinMap, get, insert}
use Rattle.nm_base.specs.declared.key.Place.{Place}
use Rattle.nm_base.specs.declared.key.Key.{Key}
use Rattle.nm_base.specs.Key.{key_cmp}
use Rattle.nm_model.specs.EventList.{schedule}
use Rattle.nm_model.proofs.Keys.{key_decides, insert_same, insert_other}

module _ {X : Type 0} where
  -- the key stands in none of the entries
  abbrev pub IsAbsent : Key → List (Key × X) → Type 0
  IsAbsent q [] = Unit {0}
  IsAbsent q (e ∷ es) = (q ≢ e.0) × IsAbsent q es

  -- one of the entries
  abbrev pub IsAmong : Key → X → List (Key × X) → Type 0
  IsAmong q v [] = ⊥
  IsAmong q v (e ∷ es) = ((q ≡ e.0) × (v ≡ e.1)) ⊎ IsAmong q v es

module _ {X : Type 0} where
  pub put_absent : (here : Place → Bool) (es : List (Key × X)) (m : FinMap key_cmp X) (q : Key) → IsAbsent q es → get (schedule here es m) q ≡ get m q
  put_absent here [] m q h = refl
  put_absent here (e ∷ es) m q h = go (put_absent here es m q h.1) (here e.0.place)
    where
      go : get (schedule here es m) q ≡ get m q → (b : Bool) → get (cond b (insert (schedule here es m) e.0 e.1) (schedule here es m)) q ≡ get m q
      go r true = insert_other _ e.0 e.1 q h.0 ∙ r
      go r false = r

  -- what isn't here is left alone
  pub put_elsewhere : (here : Place → Bool) (es : List (Key × X)) (m : FinMap key_cmp X) (q : Key) → here q.place ≡ false → get (schedule here es m) q ≡ get m q
  put_elsewhere here [] m q h = refl
  put_elsewhere here (e ∷ es) m q h = go (put_elsewhere here es m q h) (here e.0.place) refl
    where
      go : get (schedule here es m) q ≡ get m q → (b : Bool) → here e.0.place ≡ b → get (cond b (insert (schedule here es m) e.0 e.1) (schedule here es m)) q ≡ get m q
      go r true f = insert_other _ e.0 e.1 q (λ g. true≢false (sym f ∙ ap (λ k. here k.place) (sym g) ∙ h)) ∙ r
      go r false f = r

  -- two ways of keeping that agree at this key's place
  pub put_alike : (here there : Place → Bool) (es : List (Key × X)) (m n : FinMap key_cmp X) (q : Key) → here q.place ≡ there q.place → get m q ≡ get n q → get (schedule here es m) q ≡ get (schedule there es n) q
  put_alike here there [] m n q h e = e
  put_alike here there (x ∷ es) m n q h e = go (put_alike here there es m n q h e) (key_decides q x.0) (here x.0.place) (there x.0.place) refl refl
    where
      go : get (schedule here es m) q ≡ get (schedule there es n) q → (q ≡ x.0) ⊎ (q ≢ x.0) → (b c : Bool) → here x.0.place ≡ b → there x.0.place ≡ c → get (cond b (insert (schedule here es m) x.0 x.1) (schedule here es m)) q ≡ get (cond c (insert (schedule there es n) x.0 x.1) (schedule there es n)) q
      go r (inl f) true true hb hc = subst (λ z. get (insert (schedule here es m) x.0 x.1) z ≡ get (insert (schedule there es n) x.0 x.1) z) (sym f) (insert_same _ x.0 x.1 ∙ sym (insert_same _ x.0 x.1))
      go r (inl f) true false hb hc = absurd (true≢false (sym hb ∙ ap (λ k. here k.place) (sym f) ∙ h ∙ ap (λ k. there k.place) f ∙ hc))
      go r (inl f) false true hb hc = absurd (true≢false (sym hc ∙ ap (λ k. there k.place) (sym f) ∙ sym h ∙ ap (λ k. here k.place) f ∙ hb))
      go r (inl f) false false hb hc = r
      go r (inr f) true true hb hc = insert_other _ x.0 x.1 q f ∙ r ∙ sym (insert_other _ x.0 x.1 q f)
      go r (inr f) true false hb hc = insert_other _ x.0 x.1 q f ∙ r
      go r (inr f) false true hb hc = r ∙ sym (insert_other _ x.0 x.1 q f)
      go r (inr f) false false hb hc = r

  -- what is pending was put, or was there
  pub put_from : (here : Place → Bool) (es : List (Key × X)) (m : FinMap key_cmp X) (q : Key) (v : X) → get (schedule here es m) q ≡ Some v → IsAmong q v es ⊎ (get m q ≡ Some v)
  put_from here [] m q v e = inr e
  put_from here (x ∷ es) m q v e = go (put_from here es m q v) (key_decides q x.0) (here x.0.place) e
    where
      go : (get (schedule here es m) q ≡ Some v → IsAmong q v es ⊎ (get m q ≡ Some v)) → (q ≡ x.0) ⊎ (q ≢ x.0) → (b : Bool) → get (cond b (insert (schedule here es m) x.0 x.1) (schedule here es m)) q ≡ Some v → IsAmong q v (x ∷ es) ⊎ (get m q ≡ Some v)
      go r (inl f) true g =
          let had : get (insert (schedule here es m) x.0 x.1) q ≡ Some x.1 = subst (λ z. get (insert (schedule here es m) x.0 x.1) z ≡ Some x.1) (sym f) (insert_same _ x.0 x.1) in
          inl (inl (f, cc))
      go r (inr f) true g = ⊎_elim (λ a. inl (inr a)) (λ a. inr a) (r (sym (insert_other _ x.0 x.1 q f) ∙ g))
      go r c false g = ⊎_elim (λ a. inl (inr a)) (λ a. inr a) (r g)

  -- what is here and was put is pending, where no other entry has its key
  pub put_has : (here : Place → Bool) (es : List (Key × X)) (m : FinMap key_cmp X) (q : Key) (v : X) → here q.place ≡ true → IsAmong q v es → ((w : X) → IsAmong q w es → w ≡ v) → get (schedule here es m) q ≡ Some v
  put_has here [] m q v h a one = absurd a
  put_has here (x ∷ es) m q v h a one = go (λ b. put_has here es m q v h b (λ w c. one w (inr c))) (key_decides q x.0) (here x.0.place) refl a
    where
      go : (IsAmong q v es → get (schedule here es m) q ≡ Some v) → (q ≡ x.0) ⊎ (q ≢ x.0) → (b : Bool) → here x.0.place ≡ b → IsAmong q v (x ∷ es) → get (cond b (insert (schedule here es m) x.0 x.1) (schedule here es m)) q ≡ Some v
      go r (inl f) true hb c = subst (λ z. get (insert (schedule here es m) x.0 x.1) z ≡ Some x.1) (sym f) (insert_same _ x.0 x.1) ∙ ap Some (one x.1 (inl (f, refl)))
      go r (inl f) false hb c = absurd (true≢false (sym h ∙ ap (λ k. here k.place) f ∙ hb))
      go r (inr f) true hb (inl c) = absurd (f c.0)
      go r (inr f) true hb (inr c) = insert_other _ x.0 x.1 q f ∙ r c
      go r (inr f) false hb (inl c) = absurd (f c.0)
      go r (inr f) false hb (inr c) = r c

  pub absent-append : (q : Key) (es fs : List (Key × X)) → IsAbsent q es → IsAbsent q fs → IsAbsent q (es ++ fs)
  absent-append q [] fs h k = k
  absent-append q (e ∷ es) fs h k = (h.0, absent-append q es fs h.1 k)

  pub among-append : (q : Key) (v : X) (es fs : List (Key × X)) → IsAmong q v (es ++ fs) → IsAmong q v es ⊎ IsAmong q v fs
  among-append q v [] fs h = inr h
  among-append q v (e ∷ es) fs (inl h) = inl (inl h)
  among-append q v (e ∷ es) fs (inr h) = ⊎_elim (λ a. inl (inr a)) (λ a. inr a) (among-append q v es fs h)
