-- What holds of the whole network after each event.
use Rattle.std.proofs.Common.{◌≡◌, ◌≢◌, ◌⊎◌, inl, inr, refl, ℕ, suc, ◌+◌, ◌<◌, ◌≤◌, true, List, [], ◌∷◌, ◌++◌, length, Some, None, sym, ap, ap₂, ◌∙◌, subst, arith, ⊎_elim, length-append}
use Rattle.std.specs.FinMap.{get, remove}
use Rattle.nm_base.specs.declared.key.Place.{Place}
use Rattle.nm_base.specs.declared.key.Place.TheVariants.{Arrive, Complete}
use Rattle.nm_base.specs.declared.key.Key.{Key}
use Rattle.nm_base.specs.Key.{key_of}
use Rattle.nm_model.specs.EventList.{least}
use Rattle.nm_model.specs.Lists.{nth, IsRising}
use Rattle.nm_model.specs.Network.{Net, IsNet}
use Rattle.nm_model.specs.Run.{State, Effect, effect, turned, arrived_after, sent_after, new_events, apply}
use Rattle.nm_model.specs.Port.{Busy}
use Rattle.nm_base.specs.declared.event.Event.{Event}
use Rattle.nm_base.specs.declared.event.Event.TheVariants.{Delivery}
use Rattle.nm_base.specs.declared.event.Origin.TheVariants.{Arrival}
use Rattle.nm_model.proofs.Keys.{key_at, same_key, least_has, least_min, up_to_time}
use Rattle.nm_model.proofs.ListLemmas.{equal_or_less, same_time, nth_cong, same_number, set_here, nth_below, below_nth, nth_last, nth_push, prefix_nth, prefix_length}
use Rattle.nm_model.proofs.Scheduling.{IsAmong, put_has}
use Rattle.nm_model.specs.Orderly.{IsOrderly}
use Rattle.nm_model.proofs.Placed.{placed_of}
use Rattle.nm_model.proofs.Orders.{unturned, makes_later, orderly_step_at, all_by_node}
use Rattle.nm_model.proofs.Effects.{EffectIs, effect_is}
use Rattle.nm_model.proofs.NewEvents.{far_end_inj, arrive_inj, arrived_case, turned_case, sent_case, sent_prefix, IsNew, Ends, Comes, GoesOn, made_among, among_comes, pending_case, pending_other}

-- from one to the next there is time to send the next
abbrev pub IsSpaced : {P : Type 0} → (P → ℕ) → List (ℕ × P) → Type 0
IsSpaced {P} tx l = (m n : ℕ) (a b : ℕ × P) → m < n → nth l m ≡ Some a → nth l n ≡ Some b → a.0 + tx b.1 ≤ b.0

-- all that is pending is at now or later
pub record Invariant {P N : Type 0} (net : Net P N) (s : State P N) (now : ℕ) : Type 0 where
  pub later : (q : Key) (x : Event P) → get s.pending q ≡ Some x → now ≤ q.time
  pub counted : (c : ℕ) → s.arrived c ≤ length (s.sent c)
  pub arrival_is : (c t n : ℕ) (x : Event P) → get s.pending (key_of t (Arrive c) n) ≡ Some x → (y : P) × (x ≡ Delivery (Arrival c) y) × (s.arrived c ≤ n) × (nth (s.sent c) n ≡ Some (t, y))
  pub arrival_has : (c t n : ℕ) (x : P) → s.arrived c ≤ n → nth (s.sent c) n ≡ Some (t, x) → get s.pending (key_of t (Arrive c) n) ≡ Some (Delivery (Arrival c) x)
  pub rising : (c : ℕ) → IsRising (s.sent c)
  pub spaced : (c : ℕ) → IsSpaced (net.tx (net.far_end c)) (s.sent c)
  pub underway : (i : ℕ) (b : Busy P) → (s.port i).busy ≡ Some b → (n : ℕ) × (y : P) × (suc n ≡ length (s.sent (net.far_end i))) × (nth (s.sent (net.far_end i)) n ≡ Some (b.completes + net.delay i, y))
  pub idle : (i : ℕ) → (s.port i).busy ≡ None → (n : ℕ) (b : ℕ × P) → nth (s.sent (net.far_end i)) n ≡ Some b → b.0 ≤ now + net.delay i
  pub orderly : IsOrderly net (λ q. true) s

module _ {P : Type 0} where
  spaced_push : (tx : P → ℕ) (l : List (ℕ × P)) (b : ℕ × P) → IsSpaced tx l → ((n : ℕ) (a : ℕ × P) → nth l n ≡ Some a → a.0 + tx b.1 ≤ b.0) → IsSpaced tx (l ++ b ∷ [])
  spaced_push tx l b r h m n x y lt e f = ⊎_elim
      (λ g. ⊎_elim
      (λ i. r m n x y lt i g)
      (λ i. absurd (let z = below_nth l n y g in omega arith))
      (nth_push l b x m e))
      (λ g. ⊎_elim
      (λ i. let z = h m x i in let w : b.0 ≡ y.0 = ap (λ v. v.0) g.1 in let u : tx b.1 ≡ tx y.1 = ap (λ v. tx v.1) g.1 in omega arith)
      (λ i. absurd (omega arith))
      (nth_push l b x m e))
      (nth_push l b y n f)

  pub rising_push : (l : List (ℕ × P)) (b : ℕ × P) → IsRising l → ((n : ℕ) (a : ℕ × P) → nth l n ≡ Some a → a.0 < b.0) → IsRising (l ++ b ∷ [])
  rising_push l b r h m n x y lt e f = ⊎_elim
      (λ g. ⊎_elim
      (λ i. r m n x y lt i g)
      (λ i. absurd (let z = below_nth l n y g in omega arith))
      (nth_push l b x m e))
      (λ g. ⊎_elim
      (λ i. let z = h m x i in let w : b.0 ≡ y.0 = ap (λ v. v.0) g.1 in omega arith)
      (λ i. absurd (omega arith))
      (nth_push l b x m e))
      (nth_push l b y n f)

module _ {P N : Type 0} (net : Net P N) (ok : IsNet net) where
  module _ (s : State P N) (now : ℕ) (g : Invariant net s now) (k : Key) (x : Event P) (m : least s.pending ≡ Some (k, x)) where
    abbrev pub what : Effect P N
    what = effect net s.node s.port k.time k.number x

    what_is : EffectIs net s.port k.time k.place k.number x what
    what_is = effect_is net ok s.node s.port k.time k.place k.number x (placed_of net (λ q. true) s g.orderly k x (least_has s.pending (k, x) m))

    -- a pending completion is that of the last transmission
    last_sent : (i t n : ℕ) (y : Event P) → get s.pending (key_of t (Complete i) n) ≡ Some y → (z : P) × (suc n ≡ length (s.sent (net.far_end i))) × (nth (s.sent (net.far_end i)) n ≡ Some (t + net.delay i, z))
    last_sent i t n y h =
        let a = g.orderly.completion i t n y h in
        let b = g.underway i a.0 a.2 in
        let e : n ≡ b.0 = omega (arith, a.4, b.2) in
        (b.1, a.4, ap (nth (s.sent (net.far_end i))) e ∙ b.3 ∙ ap (λ u. Some (u + net.delay i, b.1)) a.3)

    is_pending : get s.pending k ≡ Some x
    is_pending = least_has s.pending (k, x) m

    pending_at : (p : Place) → k.place ≡ p → get s.pending (key_of k.time p k.number) ≡ Some x
    pending_at p e = ap (get s.pending) (sym (key_at k p e)) ∙ is_pending

    pub least_time : (q : Key) (y : Event P) → get s.pending q ≡ Some y → k.time ≤ q.time
    least_time q y e = up_to_time k q (least_min s.pending (k, x) q y m e)

    now_before : now ≤ k.time
    now_before = g.later k x is_pending

    -- the arrival that is done is the next one of its place
    pub arrival_number : (c : ℕ) → k.place ≡ Arrive c → (y : P) × (x ≡ Delivery (Arrival c) y) × (k.number ≡ s.arrived c) × (nth (s.sent c) k.number ≡ Some (k.time, y))
    arrival_number c e =
        let a = g.arrival_is c k.time k.number x (pending_at (Arrive c) e) in
        (a.0, a.1, ⊎_elim (λ eq. sym eq) (λ lt. absurd (early a.0 a.3 lt)) (equal_or_less (s.arrived c) k.number a.2), a.3)
      where
        early : (y : P) → nth (s.sent c) k.number ≡ Some (k.time, y) → s.arrived c < k.number → ⊥
        early y h lt =
            let below = below_nth (s.sent c) k.number (k.time, y) h in
            let b = nth_below (s.sent c) (s.arrived c) (omega arith) in
            let rises = g.rising c (s.arrived c) k.number b.0 (k.time, y) lt b.1 h in
            let there = g.arrival_has c b.0.0 (s.arrived c) b.0.1 (omega arith) b.1 in
            let le = least_time (key_of b.0.0 (Arrive c) (s.arrived c)) (Delivery (Arrival c) b.0.1) there in
            omega arith

    -- all on the line of a pending completion arrive by its end and the delay
    by_completion : (i t n : ℕ) (y : Event P) → get s.pending (key_of t (Complete i) n) ≡ Some y → (l : ℕ) (b : ℕ × P) → nth (s.sent (net.far_end i)) l ≡ Some b → b.0 ≤ t + net.delay i
    by_completion i t n y h l b e =
        let a = last_sent i t n y h in
        let below = below_nth (s.sent (net.far_end i)) l b e in
        ⊎_elim
        (λ eq. let same : nth (s.sent (net.far_end i)) n ≡ Some b = subst (λ z. nth (s.sent (net.far_end i)) z ≡ Some b) eq e in
        let f : b ≡ (t + net.delay i, a.0) = let u = a.2 in cc in
        let f0 : b.0 ≡ t + net.delay i = ap (λ z. z.0) f in omega arith)
        (λ lt. let r = g.rising (net.far_end i) l n b (t + net.delay i, a.0) lt e a.2 in omega arith)
        (equal_or_less l n (omega (arith, a.1)))

    -- where a transmission starts, all earlier ones arrive earlier
    room : (t : ℕ × P) → what.transmission ≡ Some t → (n : ℕ) (b : ℕ × P) → nth (s.sent (net.far_end t.0)) n ≡ Some b → b.0 ≤ k.time + net.delay t.0
    room t h n b e = ⊎_elim
        (λ free. let a = g.idle t.0 free n b e in let z = now_before in omega arith)
        (λ place. by_completion t.0 k.time k.number x (pending_at (Complete t.0) place) n b e)
        (what_is.transmission_free t h)

    -- new events are strictly later
    pub new_later : (q : Key) (y : Event P) → IsNew net k s.sent what q y → k.time < q.time
    new_later q y n = makes_later net ok (λ q. true) (all_by_node net) s g.orderly (k, x) is_pending q y n

    -- the arrivals done are counted
    pub came_case : (f : ℕ → ℕ) (c : ℕ) → ((k.place ≡ Arrive c) × (arrived_after f what.came c ≡ suc (f c))) ⊎ ((k.place ≢ Arrive c) × (arrived_after f what.came c ≡ f c))
    came_case f c = ⊎_elim
        (λ h. inl ((what_is.came_is (c, h.0) h.1).0, h.2))
        (λ h. inr ((λ pl. let a = arrival_number c pl in h.0 a.0 (what_is.came_has c a.0 pl a.1)), h.1))
        (arrived_case f what.came c)

    abbrev after : State P N
    after = apply net (λ p. true) k what s

    rising_after : (c : ℕ) → IsRising (after.sent c)
    rising_after c = ⊎_elim
        (λ h. subst IsRising (sym h.3) (rising_push (s.sent c) _ (g.rising c) (λ n a e.
        let le = room h.0 h.1 n a (nth_cong _ _ n a (ap s.sent h.2) e) in
        let z = ok.takes_time h.0.0 h.0.1 in omega arith)))
        (λ h. subst IsRising (sym h.1) (g.rising c))
        (sent_case net k.time s.sent what.transmission c)

    spaced_after : (c : ℕ) → IsSpaced (net.tx (net.far_end c)) (after.sent c)
    spaced_after c = ⊎_elim
        (λ h. subst (IsSpaced (net.tx (net.far_end c))) (sym h.3) (spaced_push (net.tx (net.far_end c)) (s.sent c) _ (g.spaced c) (λ n a e.
        let le = room h.0 h.1 n a (nth_cong _ _ n a (ap s.sent h.2) e) in
        let z : net.tx (net.far_end c) h.0.1 ≡ net.tx h.0.0 h.0.1 = ap (λ i. net.tx i h.0.1) (ap net.far_end h.2 ∙ ok.twice h.0.0) in omega arith)))
        (λ h. subst (IsSpaced (net.tx (net.far_end c))) (sym h.1) (g.spaced c))
        (sent_case net k.time s.sent what.transmission c)

    counted_at : (c : ℕ) → after.arrived c ≤ length (s.sent c)
    counted_at c = ⊎_elim
        (λ h. let a = arrival_number c h.0 in let b = below_nth (s.sent c) k.number (k.time, a.0) a.3 in omega (arith, h.1, a.2))
        (λ h. let b = g.counted c in omega (arith, h.1))
        (came_case s.arrived c)

    counted_after : (c : ℕ) → after.arrived c ≤ length (after.sent c)
    counted_after c =
        let a = counted_at c in
        let b = prefix_length _ _ (sent_prefix net k.time s.sent what.transmission c) in
        omega arith

    later_after : (q : Key) (y : Event P) → get after.pending q ≡ Some y → k.time ≤ q.time
    later_after q y e = ⊎_elim
        (λ n. let lt = new_later q y n in omega arith)
        (λ h. least_time q y h.1)
        (pending_case net k s.sent what (λ q. true) s.pending q y e)

    -- what starts is put on the far end
    grown : (u : ℕ × P) → what.transmission ≡ Some u → nth (after.sent (net.far_end u.0)) (length (s.sent (net.far_end u.0))) ≡ Some (k.time + net.tx u.0 u.1 + net.delay u.0, u.1)
    grown u h = ap (λ l. nth l (length (s.sent (net.far_end u.0)))) (ap (λ o. sent_after net k.time s.sent o (net.far_end u.0)) h ∙ set_here s.sent (net.far_end u.0) _) ∙ nth_last (s.sent (net.far_end u.0)) _

    arrival_is_after : (c t n : ℕ) (y : Event P) → get after.pending (key_of t (Arrive c) n) ≡ Some y → (z : P) × (y ≡ Delivery (Arrival c) z) × (after.arrived c ≤ n) × (nth (after.sent c) n ≡ Some (t, z))
    arrival_is_after c t n y e = ⊎_elim new (λ h. old h.0 h.1) (pending_case net k s.sent what (λ q. true) s.pending (key_of t (Arrive c) n) y e)
      where
        new : IsNew net k s.sent what (key_of t (Arrive c) n) y → (z : P) × (y ≡ Delivery (Arrival c) z) × (after.arrived c ≤ n) × (nth (after.sent c) n ≡ Some (t, z))
        new (Ends u h f i) = absurd (let z = ap (λ r. r.place) f in cc)
        new (GoesOn u h f i) = absurd (let z = ap (λ r. r.place) f in cc)
        new (Comes u h f i) =
            let pc : c ≡ net.far_end u.0 = arrive_inj _ _ (ap (λ r. r.place) f) in
            let pn : n ≡ length (s.sent c) = ap (λ r. r.number) f ∙ ap (λ d. length (s.sent d)) (sym pc) in
            let pt : t ≡ k.time + net.tx u.0 u.1 + net.delay u.0 = ap (λ r. r.time) f in
            let le = counted_at c in
            (u.1, i ∙ ap (λ d. Delivery (Arrival d) u.1) (sym pc), omega arith, ap₂ (λ d m. nth (after.sent d) m) pc (ap (λ r. r.number) f) ∙ grown u h ∙ ap (λ a. Some (a, u.1)) (sym pt))

        old : key_of t (Arrive c) n ≢ k → get s.pending (key_of t (Arrive c) n) ≡ Some y → (z : P) × (y ≡ Delivery (Arrival c) z) × (after.arrived c ≤ n) × (nth (after.sent c) n ≡ Some (t, z))
        old ne h =
            let a = g.arrival_is c t n y h in (
              a.0,
              a.1,
              ⊎_elim
                  (λ b. let num = arrival_number c b.0 in
                  ⊎_elim
                  (λ eq. absurd (ne (same_key _ _ (let w = same_time t k.time a.0 num.0 _ a.3 (ap (nth (s.sent c)) eq ∙ num.3) in w.0) (sym b.0) eq)))
                  (λ d. omega (arith, b.1, num.2, a.2, d))
                  (same_number n k.number))
                  (λ b. omega (arith, b.1, a.2))
                  (came_case s.arrived c),
              prefix_nth _ _ n (t, a.0) (sent_prefix net k.time s.sent what.transmission c) a.3,
            )

    arrival_has_after : (c t n : ℕ) (y : P) → after.arrived c ≤ n → nth (after.sent c) n ≡ Some (t, y) → get after.pending (key_of t (Arrive c) n) ≡ Some (Delivery (Arrival c) y)
    arrival_has_after c t n y le e = ⊎_elim
        (λ h. ⊎_elim (λ i. kept i) (λ i. came h.0 h.1 h.2 i.0 i.1) (nth_push (s.sent c) _ (t, y) n (nth_cong _ _ n (t, y) h.3 e)))
        (λ h. kept (nth_cong _ _ n (t, y) h.1 e))
        (sent_case net k.time s.sent what.transmission c)
      where
        -- a message that was there is pending as before
        kept : nth (s.sent c) n ≡ Some (t, y) → get after.pending (key_of t (Arrive c) n) ≡ Some (Delivery (Arrival c) y)
        kept i = pending_other net k s.sent what (λ q. true) s.pending (key_of t (Arrive c) n) not_done not_new ∙ g.arrival_has c t n y reached i
          where
            reached : s.arrived c ≤ n
            reached = ⊎_elim (λ b. omega (arith, b.1, le)) (λ b. omega (arith, b.1, le)) (came_case s.arrived c)

            not_done : key_of t (Arrive c) n ≢ k
            not_done eq =
                let pl : k.place ≡ Arrive c = sym (ap (λ r. r.place) eq) in
                let num = arrival_number c pl in
                let nn : n ≡ k.number = ap (λ r. r.number) eq in
                ⊎_elim
                (λ b. absurd (omega (arith, b.1, le, num.2, nn)))
                (λ b. b.0 pl)
                (came_case s.arrived c)

            not_new : (z : Event P) → ¬ (IsNew net k s.sent what (key_of t (Arrive c) n) z)
            not_new z (Ends u h f i') = absurd (let w = ap (λ r. r.place) f in cc)
            not_new z (GoesOn u h f i') = absurd (let w = ap (λ r. r.place) f in cc)
            not_new z (Comes u h f i') =
                let pc : c ≡ net.far_end u.0 = arrive_inj _ _ (ap (λ r. r.place) f) in
                let pn : n ≡ length (s.sent c) = ap (λ r. r.number) f ∙ ap (λ d. length (s.sent d)) (sym pc) in
                let b = below_nth (s.sent c) n (t, y) i in omega arith

        came : (u : ℕ × P) → what.transmission ≡ Some u → c ≡ net.far_end u.0 → n ≡ length (s.sent c) → ◌≡◌ {A = ℕ × P} (k.time + net.tx u.0 u.1 + net.delay u.0, u.1) (t, y) → get after.pending (key_of t (Arrive c) n) ≡ Some (Delivery (Arrival c) y)
        came u h pc pn eq =
            subst (λ q. get after.pending q ≡ Some (Delivery (Arrival c) y)) (sym same) (put_has (λ q. true) (new_events net k s.sent what) (remove s.pending k) _ (Delivery (Arrival c) y) refl among one)
          where
            same : key_of t (Arrive c) n ≡ key_of (k.time + net.tx u.0 u.1 + net.delay u.0) (Arrive (net.far_end u.0)) (length (s.sent (net.far_end u.0)))
            same = same_key _ _ (sym (ap (λ z. z.0) eq)) (ap Arrive pc) (pn ∙ ap (λ d. length (s.sent d)) pc)

            its_event : Delivery (Arrival (net.far_end u.0)) u.1 ≡ Delivery (Arrival c) y
            its_event = ap₂ (λ d z. Delivery (Arrival d) z) (sym pc) (ap (λ z. z.1) eq)

            among : IsAmong (key_of (k.time + net.tx u.0 u.1 + net.delay u.0) (Arrive (net.far_end u.0)) (length (s.sent (net.far_end u.0)))) (Delivery (Arrival c) y) (new_events net k s.sent what)
            among = subst (λ v. IsAmong (key_of (k.time + net.tx u.0 u.1 + net.delay u.0) (Arrive (net.far_end u.0)) (length (s.sent (net.far_end u.0)))) v (new_events net k s.sent what)) its_event (among_comes net k s.sent what u h)

            one : (w : Event P) → IsAmong (key_of (k.time + net.tx u.0 u.1 + net.delay u.0) (Arrive (net.far_end u.0)) (length (s.sent (net.far_end u.0)))) w (new_events net k s.sent what) → w ≡ Delivery (Arrival c) y
            one w a = go (made_among net k s.sent what _ w a)
              where
                go : IsNew net k s.sent what (key_of (k.time + net.tx u.0 u.1 + net.delay u.0) (Arrive (net.far_end u.0)) (length (s.sent (net.far_end u.0)))) w → w ≡ Delivery (Arrival c) y
                go (Ends v h' f i) = absurd (let z = ap (λ r. r.place) f in cc)
                go (GoesOn v h' f i) = absurd (let z = ap (λ r. r.place) f in cc)
                go (Comes v h' f i) = let uv : v ≡ u = cc in i ∙ ap (λ z. Delivery (Arrival (net.far_end z.0)) z.1) uv ∙ its_event

    idle_after : (i : ℕ) → (after.port i).busy ≡ None → (n : ℕ) (b : ℕ × P) → nth (after.sent (net.far_end i)) n ≡ Some b → b.0 ≤ k.time + net.delay i
    idle_after i q n b e = ⊎_elim
        (λ t. by_completion i k.time k.number x (pending_at (Complete i) (what_is.turn_idle (i, t.0) t.1 (ap (λ w. w.busy) (sym t.2) ∙ q))) n b (nth_cong _ _ n b same e))
        (λ t. let le = g.idle i (ap (λ w. w.busy) (sym t.1) ∙ q) n b (nth_cong _ _ n b same e) in let z = now_before in omega arith)
        (turned_case s.port what.turn i)
      where
        -- a port that is idle after has transmitting nothing
        same : after.sent (net.far_end i) ≡ s.sent (net.far_end i)
        same = ⊎_elim
            (λ c. absurd (let d = what_is.transmission_turn c.0 c.1 in
            let ij : i ≡ c.0.0 = far_end_inj net ok i c.0.0 c.2 in
            d.2 (ap (λ w. w.busy) (sym (ap (turned s.port what.turn) ij ∙ ap (λ o. turned s.port o c.0.0) d.1 ∙ set_here s.port c.0.0 d.0)) ∙ q)))
            (λ c. c.1)
            (sent_case net k.time s.sent what.transmission (net.far_end i))

    underway_after : (i : ℕ) (b : Busy P) → (after.port i).busy ≡ Some b → (n : ℕ) × (y : P) × (suc n ≡ length (after.sent (net.far_end i))) × (nth (after.sent (net.far_end i)) n ≡ Some (b.completes + net.delay i, y))
    underway_after i b e = ⊎_elim
        (λ t. ⊎_elim
        (λ c. begins c.0 c.1 c.2)
        (λ c. stays c.0 c.2 c.3 (ap (λ o. sent_after net k.time s.sent o (net.far_end i)) c.1))
        (what_is.turn_busy (i, t.0) t.1 b (ap (λ w. w.busy) (sym t.2) ∙ e)))
        (λ t. stays b (ap (λ w. w.busy) (sym t.1) ∙ e) refl (unturned net ok (λ q. true) (all_by_node net) s g.orderly (k, x) is_pending i t.0))
        (turned_case s.port what.turn i)
      where
        stays : (c : Busy P) → (s.port i).busy ≡ Some c → b.completes ≡ c.completes → after.sent (net.far_end i) ≡ s.sent (net.far_end i) → (n : ℕ) × (y : P) × (suc n ≡ length (after.sent (net.far_end i))) × (nth (after.sent (net.far_end i)) n ≡ Some (b.completes + net.delay i, y))
        stays c f t line =
            let a = g.underway i c f in
            (a.0, a.1, a.2 ∙ ap length (sym line), ap (λ l. nth l a.0) line ∙ a.3 ∙ ap (λ u. Some (u + net.delay i, a.1)) (sym t))

        begins : (y : P) → what.transmission ≡ Some (i, y) → b.completes ≡ k.time + net.tx i y → (n : ℕ) × (y : P) × (suc n ≡ length (after.sent (net.far_end i))) × (nth (after.sent (net.far_end i)) n ≡ Some (b.completes + net.delay i, y))
        begins y h t =
            let line : after.sent (net.far_end i) ≡ s.sent (net.far_end i) ++ (k.time + net.tx i y + net.delay i, y) ∷ [] = ap (λ o. sent_after net k.time s.sent o (net.far_end i)) h ∙ set_here s.sent (net.far_end i) _ in
            let l1 = ap length line in
            let l2 = length-append (s.sent (net.far_end i)) ((k.time + net.tx i y + net.delay i, y) ∷ []) in
            (length (s.sent (net.far_end i)), y, omega (arith, l1, l2), grown (i, y) h ∙ ap (λ u. Some (u + net.delay i, y)) (sym t))

    orderly_after : IsOrderly net (λ q. true) after
    orderly_after = orderly_step_at net ok (λ q. true) (all_by_node net) s g.orderly (k, x) is_pending

    pub invariant_after : Invariant net after k.time
    invariant_after = record {
      later = later_after;
      counted = counted_after;
      arrival_is = arrival_is_after;
      arrival_has = arrival_has_after;
      rising = rising_after;
      spaced = spaced_after;
      underway = underway_after;
      idle = idle_after;
      orderly = orderly_after;
    }
