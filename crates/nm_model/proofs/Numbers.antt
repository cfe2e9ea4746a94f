-- The events of a place have the numbers 0, 1, 2 and so on.
use Rattle.std.proofs.Common.{◌≡◌, ◌≢◌, ◌⊎◌, inl, inr, ℕ, zero, suc, ◌+◌, Bool, true, false, cond, [], ◌∷◌, length, Option, Some, None, refl, sym, ap, ◌∙◌, arith, true≢false, ⊎_elim, length-append}
use Rattle.std.specs.FinMap.{get}
use Rattle.nm_base.specs.declared.key.Place.{Place}
use Rattle.nm_base.specs.declared.key.Place.TheVariants.{Arrive, Complete, Fire}
use Rattle.nm_base.specs.declared.key.Key.{Key}
use Rattle.nm_base.specs.Key.{key_of}
use Rattle.nm_base.specs.declared.event.Event.{Event}
use Rattle.nm_model.specs.EventList.{least}
use Rattle.nm_model.specs.Network.{Net, IsNet}
use Rattle.nm_model.specs.Port.{Busy, Port}
use Rattle.nm_model.specs.Run.{State, Effect, effect, step_at, one_list}
use Rattle.nm_model.specs.Before.{same_place, is_at, events_at}
use Rattle.nm_model.proofs.Keys.{key_at, same_key, least_has}
use Rattle.nm_model.proofs.ListLemmas.{same_time, number_is, number_tied, option_cases}
use Rattle.nm_model.proofs.Effects.{EffectIs, effect_is}
use Rattle.nm_model.proofs.NewEvents.{far_end_inj, start_pending, turned_case, sent_case, IsNew, Ends, Comes, GoesOn, pending_case}
use Rattle.nm_model.proofs.Invariants.{Invariant, arrival_number, came_case}
use Rattle.nm_model.proofs.Placed.{placed_of}
use Rattle.nm_model.proofs.Orders.{unstarted, all_by_node}
use Rattle.nm_model.proofs.Runs.{invariant_run}

pub place_tied : (q : Place) → same_place q q ≡ true
place_tied (Arrive i) = number_tied i
place_tied (Complete i) = number_tied i
place_tied (Fire j) = number_tied j

pub place_same : (p q : Place) → same_place p q ≡ true → p ≡ q
place_same (Arrive i) (Arrive j) h = ap Arrive (number_is i j h)
place_same (Arrive i) (Complete j) h = absurd (true≢false (sym h))
place_same (Arrive i) (Fire j) h = absurd (true≢false (sym h))
place_same (Complete i) (Arrive j) h = absurd (true≢false (sym h))
place_same (Complete i) (Complete j) h = ap Complete (number_is i j h)
place_same (Complete i) (Fire j) h = absurd (true≢false (sym h))
place_same (Fire i) (Arrive j) h = absurd (true≢false (sym h))
place_same (Fire i) (Complete j) h = absurd (true≢false (sym h))
place_same (Fire i) (Fire j) h = ap Fire (number_is i j h)

-- the packets in transmission
abbrev load : {P : Type 0} → Option (Busy P) → ℕ
load None = 0
load (Some b) = 1

load_full : {P : Type 0} (o : Option (Busy P)) → o ≢ None → load o ≡ 1
load_full None h = absurd (h refl)
load_full (Some b) h = refl

module _ {P N : Type 0} (net : Net P N) where
  -- one more event
  pub one_more : (here : Place → Bool) (n : ℕ) (e : Key × Event P) → least (one_list net n).pending ≡ Some e → ((here e.0.place ≡ true) × (events_at net here (suc n) ≡ suc (events_at net here n))) ⊎ ((here e.0.place ≡ false) × (events_at net here (suc n) ≡ events_at net here n))
  one_more here n e m = go (here e.0.place) refl
    where
      next : (z : Bool) → here e.0.place ≡ z → events_at net here (suc n) ≡ cond z (suc (events_at net here n)) (events_at net here n)
      next z f = ap (λ o. cond (is_at here o) (suc (events_at net here n)) (events_at net here n)) m ∙ ap (λ v. cond v (suc (events_at net here n)) (events_at net here n)) f

      go : (z : Bool) → here e.0.place ≡ z → ((here e.0.place ≡ true) × (events_at net here (suc n) ≡ suc (events_at net here n))) ⊎ ((here e.0.place ≡ false) × (events_at net here (suc n) ≡ events_at net here n))
      go true f = inl (f, next true f)
      go false f = inr (f, next false f)

  at_place : (q : Place) (n : ℕ) (e : Key × Event P) → least (one_list net n).pending ≡ Some e → ((e.0.place ≡ q) × (events_at net (same_place q) (suc n) ≡ suc (events_at net (same_place q) n))) ⊎ ((e.0.place ≢ q) × (events_at net (same_place q) (suc n) ≡ events_at net (same_place q) n))
  at_place q n e m = ⊎_elim
      (λ h. inl (sym (place_same q e.0.place h.0), h.1))
      (λ h. inr ((λ f. true≢false (sym (ap (same_place q) f ∙ place_tied q) ∙ h.0)), h.1))
      (one_more (same_place q) n e m)

  record Numbered (n : ℕ) (s : State P N) : Type 0 where
    arrivals : (c : ℕ) → s.arrived c ≡ events_at net (same_place (Arrive c)) n
    completions : (i : ℕ) → events_at net (same_place (Complete i)) n + load (s.port i).busy ≡ length (s.sent (net.far_end i))
    sources : (j t m : ℕ) (y : Event P) → get s.pending (key_of t (Fire j) m) ≡ Some y → m ≡ events_at net (same_place (Fire j)) n

  module _ (ok : IsNet net) where
    numbered_start : Numbered 0 (one_list net 0)
    numbered_start = record {
      arrivals = λ c. refl;
      completions = λ i. refl;
      sources = λ j t m y e. (start_pending net (key_of t (Fire j) m) y e).2;
    }

    module _ (n : ℕ) (h : Numbered n (one_list net n)) (e : Key × Event P) (m : least (one_list net n).pending ≡ Some e) where
      abbrev s : State P N
      s = one_list net n

      abbrev next : State P N
      next = step_at net (λ q. true) (one_list net n) (Some e)

      abbrev does : Effect P N
      does = effect net (one_list net n).node (one_list net n).port e.0.time e.0.number e.1

      good : (now : ℕ) × Invariant net (one_list net n) now
      good = invariant_run net ok n

      is : EffectIs net (one_list net n).port e.0.time e.0.place e.0.number e.1 does
      is = effect_is net ok (one_list net n).node (one_list net n).port e.0.time e.0.place e.0.number e.1 (placed_of net (λ q. true) (one_list net n) good.1.orderly e.0 e.1 (least_has (one_list net n).pending e m))

      has : (q : Place) → e.0.place ≡ q → get (one_list net n).pending (key_of e.0.time q e.0.number) ≡ Some e.1
      has q f = ap (get (one_list net n).pending) (sym (key_at e.0 q f)) ∙ least_has (one_list net n).pending e m

      arrivals_next : (c : ℕ) → next.arrived c ≡ events_at net (same_place (Arrive c)) (suc n)
      arrivals_next c = ⊎_elim
          (λ a. ⊎_elim
          (λ b. let z = h.arrivals c in omega (arith, a.1, b.1))
          (λ b. absurd (b.0 a.0))
          (at_place (Arrive c) n e m))
          (λ a. ⊎_elim
          (λ b. absurd (a.0 b.0))
          (λ b. let z = h.arrivals c in omega (arith, a.1, b.1))
          (at_place (Arrive c) n e m))
          (came_case net ok (one_list net n) good.0 good.1 e.0 e.1 m (one_list net n).arrived c)

      -- the line of an interface grows by what starts there
      transmitting : (i : ℕ) (x : P) → does.transmission ≡ Some (i, x) → (length (next.sent (net.far_end i)) ≡ suc (length ((one_list net n).sent (net.far_end i)))) × (load (next.port i).busy ≡ 1)
      transmitting i x f = (
        ⊎_elim
            (λ a. let l = ap length a.3 in let k = length-append ((one_list net n).sent (net.far_end i)) ((e.0.time + net.tx a.0.0 a.0.1 + net.delay a.0.0, a.0.1) ∷ []) in omega arith)
            (λ a. absurd (a.0 (i, x) f refl))
            (sent_case net e.0.time (one_list net n).sent does.transmission (net.far_end i)),
        load_full (next.port i).busy (λ z. ⊎_elim
            (λ a. let d = is.transmission_turn (i, x) f in let w : a.0 ≡ d.0 = let u = a.1 in let v = d.1 in port_same i a.0 d.0 (sym u ∙ v) in d.2 (ap (λ v. v.busy) (sym w) ∙ ap (λ v. v.busy) (sym a.2) ∙ z))
            (λ a. let d = is.transmission_turn (i, x) f in a.0 d.0 d.1)
            (turned_case (one_list net n).port does.turn i)),
      )
        where
          port_same : (i : ℕ) (v w : Port P) → ◌≡◌ {A = Option (ℕ × Port P)} (Some (i, v)) (Some (i, w)) → v ≡ w
          port_same i v w f = let g : ◌≡◌ {A = ℕ × Port P} (i, v) (i, w) = cc in ap (λ z. z.1) g

      starts_at : (i : ℕ) → ((x : P) × (does.transmission ≡ Some (i, x))) ⊎ ((x : P) → does.transmission ≢ Some (i, x))
      starts_at i = ⊎_elim
          (λ a. inl (a.0.1, a.1 ∙ ap (λ j. Some (j, a.0.1)) (sym (far_end_inj net ok i a.0.0 a.2))))
          (λ a. inr (λ x f. a.0 (i, x) f refl))
          (sent_case net e.0.time (one_list net n).sent does.transmission (net.far_end i))

      -- a completion: the port was busy
      completes : (i : ℕ) → e.0.place ≡ Complete i → events_at net (same_place (Complete i)) n + 1 ≡ length ((one_list net n).sent (net.far_end i))
      completes i pl =
          let a = good.1.orderly.completion i e.0.time e.0.number e.1 (has (Complete i) pl) in
          let l = ap load a.2 in
          let c = h.completions i in omega arith

      -- a port that is idle after: its transmission was completed; one that is busy with no start goes on
      rest_load : (i : ℕ) → ((x : P) → does.transmission ≢ Some (i, x)) → ((e.0.place ≡ Complete i) × (load (next.port i).busy ≡ 0)) ⊎ ((e.0.place ≢ Complete i) × (load (next.port i).busy ≡ load ((one_list net n).port i).busy))
      rest_load i none = ⊎_elim
          (λ t. ⊎_elim
          (λ z. inl (is.turn_idle (i, t.0) t.1 z, ap (λ w. load w.busy) t.2 ∙ ap load z))
          (λ z. ⊎_elim
          (λ a. absurd (none a.0 a.1))
          (λ a. inr (
            (λ pl. let c = good.1.orderly.completion i e.0.time e.0.number e.1 (has (Complete i) pl) in a.4 pl c.1),
            ap (λ w. load w.busy) t.2 ∙ ap load z.1 ∙ sym (ap load a.2),
          ))
          (is.turn_busy (i, t.0) t.1 z.0 z.1))
          (option_cases t.0.busy))
          (λ t. inr (
            (λ pl. let c = good.1.orderly.completion i e.0.time e.0.number e.1 (has (Complete i) pl) in let w = is.completes i pl c.1 in t.0 w.0 w.1),
            ap (λ w. load w.busy) t.1,
          ))
          (turned_case (one_list net n).port does.turn i)

      completions_next : (i : ℕ) → events_at net (same_place (Complete i)) (suc n) + load (next.port i).busy ≡ length (next.sent (net.far_end i))
      completions_next i = ⊎_elim
          (λ x. let s1 = transmitting i x.0 x.1 in
          ⊎_elim
          (λ b. let c = completes i b.0 in omega (arith, b.1, s1.0, s1.1))
          (λ b. let free : load ((one_list net n).port i).busy ≡ 0 = ⊎_elim (λ f. ap load f) (λ pl. absurd (b.0 pl)) (is.transmission_free (i, x.0) x.1) in
          let c = h.completions i in omega (arith, b.1, s1.0, s1.1))
          (at_place (Complete i) n e m))
          (λ none. let l = ap length (unstarted net ok (λ q. true) (all_by_node net) (one_list net n) good.1.orderly e (least_has (one_list net n).pending e m) i none) in
          ⊎_elim
          (λ b. ⊎_elim
          (λ r. let c = completes i b.0 in omega (arith, b.1, r.1))
          (λ r. absurd (r.0 b.0))
          (rest_load i none))
          (λ b. ⊎_elim
          (λ r. absurd (b.0 r.0))
          (λ r. let c = h.completions i in omega (arith, b.1, r.1))
          (rest_load i none))
          (at_place (Complete i) n e m))
          (starts_at i)

      sources_next : (j t k : ℕ) (y : Event P) → get next.pending (key_of t (Fire j) k) ≡ Some y → k ≡ events_at net (same_place (Fire j)) (suc n)
      sources_next j t k y f = ⊎_elim new (λ o. old o.0 o.1) (pending_case net e.0 (one_list net n).sent does (λ q. true) (one_list net n).pending (key_of t (Fire j) k) y f)
        where
          new : IsNew net e.0 (one_list net n).sent does (key_of t (Fire j) k) y → k ≡ events_at net (same_place (Fire j)) (suc n)
          new (Ends u a q z) = absurd (let w = ap (λ r. r.place) q in cc)
          new (Comes u a q z) = absurd (let w = ap (λ r. r.place) q in cc)
          new (GoesOn u a q z) =
              let pl : e.0.place ≡ Fire j = (is.follows_is u a).0 ∙ sym (ap (λ r. r.place) q) in
              let num = h.sources j e.0.time e.0.number e.1 (has (Fire j) pl) in
              let k1 : k ≡ suc e.0.number = ap (λ r. r.number) q in
              ⊎_elim (λ b. omega (arith, b.1)) (λ b. absurd (b.0 pl)) (at_place (Fire j) n e m)

          old : key_of t (Fire j) k ≢ e.0 → get (one_list net n).pending (key_of t (Fire j) k) ≡ Some y → k ≡ events_at net (same_place (Fire j)) (suc n)
          old ne g =
              let num = h.sources j t k y g in
              ⊎_elim
              (λ b.
              let mine = h.sources j e.0.time e.0.number e.1 (has (Fire j) b.0) in
              let kn : k ≡ e.0.number = num ∙ sym mine in
              let a = good.1.orderly.source j t k y g in
              let c = good.1.orderly.source j e.0.time e.0.number e.1 (has (Fire j) b.0) in
              let w = same_time t e.0.time a.0 c.0 (net.source j k) a.2 (ap (net.source j) kn ∙ c.2) in
              absurd (ne (same_key _ _ w.0 (sym b.0) kn)))
              (λ b. num ∙ sym b.1)
              (at_place (Fire j) n e m)

      numbered_next : Numbered (suc n) next
      numbered_next = record { arrivals = arrivals_next; completions = completions_next; sources = sources_next }

    numbered_step : (n : ℕ) → Numbered n (one_list net n) → (o : Option (Key × Event P)) → least (one_list net n).pending ≡ o → Numbered (suc n) (step_at net (λ q. true) (one_list net n) o)
    numbered_step n h (Some e) m = numbered_next n h e m
    numbered_step n h None m = record {
      arrivals = λ c. h.arrivals c ∙ sym (still (same_place (Arrive c)));
      completions = λ i. ap (λ k. k + load ((one_list net n).port i).busy) (still (same_place (Complete i))) ∙ h.completions i;
      sources = λ j t k y e. h.sources j t k y e ∙ sym (still (same_place (Fire j)));
    }
      where
        still : (here : Place → Bool) → events_at net here (suc n) ≡ events_at net here n
        still here = ap (λ o. cond (is_at here o) (suc (events_at net here n)) (events_at net here n)) m

    numbered : (n : ℕ) → Numbered n (one_list net n)
    numbered zero = numbered_start
    numbered (suc n) = numbered_step n (numbered n) _ refl

    pub consecutive : (n : ℕ) (e : Key × Event P) → least (one_list net n).pending ≡ Some e → e.0.number ≡ events_at net (same_place e.0.place) n
    consecutive n e m = go e.0.place refl
      where
        h : Numbered n (one_list net n)
        h = numbered n

        go : (q : Place) → e.0.place ≡ q → e.0.number ≡ events_at net (same_place q) n
        go (Arrive c) pl = let g = invariant_run net ok n in (arrival_number net ok (one_list net n) g.0 g.1 e.0 e.1 m c pl).2 ∙ h.arrivals c
        go (Complete i) pl =
            let g = invariant_run net ok n in
            let a = g.1.orderly.completion i e.0.time e.0.number e.1 (has n h e m (Complete i) pl) in
            let l = ap load a.2 in
            let c = h.completions i in omega (arith, a.4)
        go (Fire j) pl = h.sources j e.0.time e.0.number e.1 (has n h e m (Fire j) pl)
