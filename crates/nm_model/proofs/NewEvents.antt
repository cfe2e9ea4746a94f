-- The parts of a state after an event.
use Rattle.std.proofs.Common.{◌≡◌, ◌≢◌, ◌⊎◌, inl, inr, ℕ, zero, suc, ◌+◌, Bool, true, List, [], ◌∷◌, ◌++◌, length, Option, Some, None, refl, sym, ap, ◌∙◌, subst, ⊎_elim, append-nil}
use Rattle.std.specs.FinMap.{FinMap, get, remove}
use Rattle.nm_base.specs.declared.key.Place.{Place}
use Rattle.nm_base.specs.declared.key.Place.TheVariants.{Arrive, Complete, Fire}
use Rattle.nm_base.specs.declared.key.Key.{Key}
use Rattle.nm_base.specs.Key.{key_of, key_cmp}
use Rattle.nm_base.specs.declared.event.Event.{Event}
use Rattle.nm_base.specs.declared.event.Event.TheVariants.{Delivery, Completion}
use Rattle.nm_base.specs.declared.event.Origin.TheVariants.{Arrival, Source}
use Rattle.nm_model.specs.Port.{Port}
use Rattle.nm_model.specs.EventList.{schedule}
use Rattle.nm_model.specs.Lists.{IsPrefix, set_at}
use Rattle.nm_model.specs.Network.{Net, IsNet}
use Rattle.nm_model.specs.Run.{Effect, start, source_events, first_event, turned, sent_after, transmission_events, next_events, new_events, arrived_after}
use Rattle.nm_model.proofs.Keys.{get_empty, key_decides, remove_same, remove_other}
use Rattle.nm_model.proofs.ListLemmas.{same_number, set_here, set_there}
use Rattle.nm_model.proofs.Scheduling.{IsAbsent, IsAmong, put_absent, put_from, among-append}

pub arrive_inj : (a b : ℕ) → Arrive a ≡ Arrive b → a ≡ b
arrive_inj a b e = cc

pub complete_inj : (a b : ℕ) → Complete a ≡ Complete b → a ≡ b
complete_inj a b e = cc

pub fire_inj : (a b : ℕ) → Fire a ≡ Fire b → a ≡ b
fire_inj a b e = cc

module _ {P : Type 0} where
  pub arrived_case : (f : ℕ → ℕ) (o : Option (ℕ × P)) (c : ℕ) → ((x : P) × (o ≡ Some (c, x)) × (arrived_after f o c ≡ suc (f c))) ⊎ (((x : P) → o ≢ Some (c, x)) × (arrived_after f o c ≡ f c))
  arrived_case f None c = inr ((λ x e. cc), refl)
  arrived_case f (Some a) c = ⊎_elim
      (λ e. inl (a.1, ap (λ j. Some (j, a.1)) (sym e), subst (λ j. set_at f j (suc (f j)) c ≡ suc (f c)) e (set_here f c (suc (f c)))))
      (λ h. inr ((λ x e. h (let g : a ≡ (c, x) = cc in ap (λ z. z.0) (sym g))), set_there f a.0 (suc (f a.0)) c h))
      (same_number c a.0)

  pub turned_case : (ports : ℕ → Port P) (o : Option (ℕ × Port P)) (i : ℕ) → ((w : Port P) × (o ≡ Some (i, w)) × (turned ports o i ≡ w)) ⊎ (((w : Port P) → o ≢ Some (i, w)) × (turned ports o i ≡ ports i))
  turned_case ports None i = inr ((λ w e. cc), refl)
  turned_case ports (Some t) i = ⊎_elim
      (λ e. inl (t.1, ap (λ j. Some (j, t.1)) (sym e), subst (λ j. set_at ports j t.1 i ≡ t.1) e (set_here ports i t.1)))
      (λ h. inr ((λ w e. h (let f : t ≡ (i, w) = cc in ap (λ z. z.0) (sym f))), set_there ports t.0 t.1 i h))
      (same_number i t.0)

module _ {X : Type 0} where
  pub among_left : (q : Key) (v : X) (es fs : List (Key × X)) → IsAmong q v es → IsAmong q v (es ++ fs)
  among_left q v [] fs h = absurd h
  among_left q v (e ∷ es) fs (inl h) = inl h
  among_left q v (e ∷ es) fs (inr h) = inr (among_left q v es fs h)

  pub among_right : (q : Key) (v : X) (es fs : List (Key × X)) → IsAmong q v fs → IsAmong q v (es ++ fs)
  among_right q v [] fs h = h
  among_right q v (e ∷ es) fs h = inr (among_right q v es fs h)

  pub absent_unless : (q : Key) (es : List (Key × X)) → ((v : X) → ¬ (IsAmong q v es)) → IsAbsent q es
  absent_unless q [] h = tt
  absent_unless q (e ∷ es) h = ((λ f. h e.1 (inl (f, refl))), absent_unless q es (λ v a. h v (inr a)))

-- what an event that an event makes is: the end of a transmission, its arrival, or the source's next
pub data IsNew {P N : Type 0} (net : Net P N) (k : Key) (sent : ℕ → List (ℕ × P)) (e : Effect P N) (q : Key) (y : Event P) : Type 0 where
  Ends : (t : ℕ × P) → e.transmission ≡ Some t → q ≡ key_of (k.time + net.tx t.0 t.1) (Complete t.0) (length (sent (net.far_end t.0))) → y ≡ Completion t.0 → IsNew net k sent e q y
  Comes : (t : ℕ × P) → e.transmission ≡ Some t → q ≡ key_of (k.time + net.tx t.0 t.1 + net.delay t.0) (Arrive (net.far_end t.0)) (length (sent (net.far_end t.0))) → y ≡ Delivery (Arrival (net.far_end t.0)) t.1 → IsNew net k sent e q y
  GoesOn : (f : ℕ × ℕ × P) → e.follows ≡ Some f → q ≡ key_of f.1 (Fire f.0) (suc k.number) → y ≡ Delivery (Source f.0) f.2 → IsNew net k sent e q y

module _ {P N : Type 0} (net : Net P N) where
  pub sent_case : (time : ℕ) (sent : ℕ → List (ℕ × P)) (o : Option (ℕ × P)) (c : ℕ) → ((t : ℕ × P) × (o ≡ Some t) × (c ≡ net.far_end t.0) × (sent_after net time sent o c ≡ sent c ++ (time + net.tx t.0 t.1 + net.delay t.0, t.1) ∷ [])) ⊎ (((t : ℕ × P) → o ≡ Some t → c ≢ net.far_end t.0) × (sent_after net time sent o c ≡ sent c))
  sent_case time sent None c = inr ((λ t e. absurd (cc)), refl)
  sent_case time sent (Some t) c = ⊎_elim
      (λ e. inl (t, refl, e, subst (λ d. sent_after net time sent (Some t) d ≡ sent d ++ (time + net.tx t.0 t.1 + net.delay t.0, t.1) ∷ []) (sym e) (set_here sent (net.far_end t.0) _)))
      (λ h. inr ((λ u e f. h (f ∙ ap (λ z. net.far_end z.0) (let g : u ≡ t = cc in g))), set_there sent (net.far_end t.0) _ c h))
      (same_number c (net.far_end t.0))

  pub sent_prefix : (time : ℕ) (sent : ℕ → List (ℕ × P)) (o : Option (ℕ × P)) (c : ℕ) → IsPrefix (sent c) (sent_after net time sent o c)
  sent_prefix time sent o c = ⊎_elim
      (λ h. (_, sym h.3))
      (λ h. ([], append-nil (sent c) ∙ sym h.1))
      (sent_case time sent o c)

  module _ (k : Key) (sent : ℕ → List (ℕ × P)) (e : Effect P N) where
    transmission_among : (q : Key) (y : Event P) (o : Option (ℕ × P)) → e.transmission ≡ o → IsAmong q y (transmission_events net k.time sent o) → IsNew net k sent e q y
    transmission_among q y None h a = absurd a
    transmission_among q y (Some t) h (inl a) = Ends t h a.0 a.1
    transmission_among q y (Some t) h (inr (inl a)) = Comes t h a.0 a.1
    transmission_among q y (Some t) h (inr (inr a)) = absurd a

    next_among : (q : Key) (y : Event P) (o : Option (ℕ × ℕ × P)) → e.follows ≡ o → IsAmong q y (next_events k.number o) → IsNew net k sent e q y
    next_among q y None h a = absurd a
    next_among q y (Some f) h (inl a) = GoesOn f h a.0 a.1
    next_among q y (Some f) h (inr a) = absurd a

    pub made_among : (q : Key) (y : Event P) → IsAmong q y (new_events net k sent e) → IsNew net k sent e q y
    made_among q y a = ⊎_elim
        (λ b. transmission_among q y e.transmission refl b)
        (λ b. next_among q y e.follows refl b)
        (among-append q y (transmission_events net k.time sent e.transmission) (next_events k.number e.follows) a)

    pub among_comes : (t : ℕ × P) → e.transmission ≡ Some t → IsAmong (key_of (k.time + net.tx t.0 t.1 + net.delay t.0) (Arrive (net.far_end t.0)) (length (sent (net.far_end t.0)))) (Delivery (Arrival (net.far_end t.0)) t.1) (new_events net k sent e)
    among_comes t h = among_left _ _ (transmission_events net k.time sent e.transmission) _ (subst (λ o. IsAmong (key_of (k.time + net.tx t.0 t.1 + net.delay t.0) (Arrive (net.far_end t.0)) (length (sent (net.far_end t.0)))) (Delivery (Arrival (net.far_end t.0)) t.1) (transmission_events net k.time sent o)) (sym h) (inr (inl (refl, refl))))

    pub among_ends : (t : ℕ × P) → e.transmission ≡ Some t → IsAmong (key_of (k.time + net.tx t.0 t.1) (Complete t.0) (length (sent (net.far_end t.0)))) (Completion t.0) (new_events net k sent e)
    among_ends t h = among_left _ _ (transmission_events net k.time sent e.transmission) _ (subst (λ o. IsAmong (key_of (k.time + net.tx t.0 t.1) (Complete t.0) (length (sent (net.far_end t.0)))) (Completion t.0) (transmission_events net k.time sent o)) (sym h) (inl (refl, refl)))

    -- what is pending after the event
    module _ (here : Place → Bool) (m : FinMap key_cmp (Event P)) where
      pub pending_case : (q : Key) (y : Event P) → get (schedule here (new_events net k sent e) (remove m k)) q ≡ Some y → IsNew net k sent e q y ⊎ ((q ≢ k) × (get m q ≡ Some y))
      pending_case q y h = ⊎_elim
          (λ a. inl (made_among q y a))
          (λ f. inr (old f (key_decides q k)))
          (put_from here (new_events net k sent e) (remove m k) q y h)
        where
          old : get (remove m k) q ≡ Some y → (q ≡ k) ⊎ (q ≢ k) → (q ≢ k) × (get m q ≡ Some y)
          old f (inl g) = let none : get (remove m k) q ≡ None = subst (λ z. get (remove m k) z ≡ None) (sym g) (remove_same m k) in absurd (cc)
          old f (inr g) = (g, sym (remove_other m k q g) ∙ f)

      pub pending_other : (q : Key) → q ≢ k → ((y : Event P) → ¬ (IsNew net k sent e q y)) → get (schedule here (new_events net k sent e) (remove m k)) q ≡ get m q
      pending_other q g h = put_absent here (new_events net k sent e) (remove m k) q (absent_unless q _ (λ v a. h v (made_among q v a))) ∙ remove_other m k q g

module _ {P N : Type 0} (net : Net P N) where
  first_among : (j : ℕ) (o : Option (ℕ × P)) → net.source j 0 ≡ o → (q : Key) (y : Event P) → IsAmong q y (first_event j o) → (i : ℕ) × (q.place ≡ Fire i) × (q.number ≡ 0) × (z : P) × (y ≡ Delivery (Source i) z) × (net.source i 0 ≡ Some (q.time, z))
  first_among j None h q y a = absurd a
  first_among j (Some f) h q y (inr a) = absurd a
  first_among j (Some f) h q y (inl a) = (j, ap (λ r. r.place) a.0, ap (λ r. r.number) a.0, f.1, a.1, h ∙ ap (λ t. Some (t, f.1)) (ap (λ r. r.time) (sym a.0)))

  pub source_among : (j : ℕ) (q : Key) (y : Event P) → IsAmong q y (source_events net j) → (i : ℕ) × (q.place ≡ Fire i) × (q.number ≡ 0) × (z : P) × (y ≡ Delivery (Source i) z) × (net.source i 0 ≡ Some (q.time, z))
  source_among zero q y a = absurd a
  source_among (suc j) q y a = ⊎_elim
      (λ b. first_among j (net.source j 0) refl q y b)
      (λ b. source_among j q y b)
      (among-append q y (first_event j (net.source j 0)) (source_events net j) a)

  pub start_pending : (q : Key) (y : Event P) → get (start net (λ p. true) []).pending q ≡ Some y → (i : ℕ) × (q.place ≡ Fire i) × (q.number ≡ 0) × (z : P) × (y ≡ Delivery (Source i) z) × (net.source i 0 ≡ Some (q.time, z))
  start_pending q y e = ⊎_elim
      (λ a. source_among net.sources q y a)
      (λ f. let none = get_empty {X = Event P} q in absurd (cc))
      (put_from (λ p. true) (source_events net net.sources) _ q y e)

pub far_end_inj : {P N : Type 0} (net : Net P N) → IsNet net → (i j : ℕ) → net.far_end i ≡ net.far_end j → i ≡ j
far_end_inj net ok i j e = sym (ok.twice i) ∙ ap net.far_end e ∙ ok.twice j
