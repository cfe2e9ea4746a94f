-- Every state of a run is orderly.
use Rattle.std.proofs.Common.{◌≡◌, ◌≢◌, ◌⊎◌, inl, inr, ℕ, zero, suc, ◌+◌, ◌<◌, ◌==◌, Bool, true, false, List, [], ◌∷◌, ◌++◌, length, Option, Some, None, refl, sym, ap, ap₂, ◌∙◌, subst, arith, true≢false, ⊎_elim, length-append}
use Rattle.std.specs.FinMap.{get, insert, remove, empty}
use Rattle.nm_base.specs.declared.key.Place.{Place}
use Rattle.nm_base.specs.declared.key.Place.TheVariants.{Arrive, Complete, Fire}
use Rattle.nm_base.specs.declared.key.Key.{Key}
use Rattle.nm_base.specs.declared.event.Event.{Event}
use Rattle.nm_base.specs.declared.event.Event.TheVariants.{Delivery, Completion}
use Rattle.nm_base.specs.declared.event.Origin.TheVariants.{Arrival, Source}
use Rattle.nm_base.specs.Key.{key_of}
use Rattle.nm_model.specs.Lists.{nth}
use Rattle.nm_model.specs.EventList.{least, schedule}
use Rattle.nm_model.specs.Network.{Net, IsNet}
use Rattle.nm_model.specs.Port.{Busy, Port}
use Rattle.nm_model.specs.Run.{one_list, State, Effect, effect, sent_after, new_events, transmission_events, next_events, made, step_at, run, start, source_events}
use Rattle.nm_model.specs.Partition.{in_part}
use Rattle.nm_model.specs.Orderly.{IsByNode, IsOrderly}
use Rattle.nm_model.proofs.Keys.{key_at, get_empty, same_key, key_decides, insert_same, insert_other, remove_other, remove_same, least_has}
use Rattle.nm_model.proofs.ListLemmas.{same_time, some_inj, not_some, bool_cases, option_cases, set_here, prefix_length}
use Rattle.nm_model.proofs.Scheduling.{IsAmong, put_from, put_has, put_elsewhere}
use Rattle.nm_model.proofs.Placed.{placed_of}
use Rattle.nm_model.proofs.Effects.{EffectIs, effect_is}
use Rattle.nm_model.proofs.NewEvents.{source_among, far_end_inj, arrive_inj, complete_inj, fire_inj, turned_case, sent_case, sent_prefix, IsNew, Ends, Comes, GoesOn, made_among, among_ends, pending_case, pending_other}

complete_fire : (i j : ℕ) → Complete i ≡ Fire j → ⊥
complete_fire i j e = cc

complete_arrive : (i j : ℕ) → Complete i ≡ Arrive j → ⊥
complete_arrive i j e = cc

arrive_fire : (i j : ℕ) → Arrive i ≡ Fire j → ⊥
arrive_fire i j e = cc

fire_arrive : (i j : ℕ) → Fire i ≡ Arrive j → ⊥
fire_arrive i j e = cc

module _ {P N : Type 0} (net : Net P N) (ok : IsNet net) (here : Place → Bool) (by_node : IsByNode net here) where
  -- messages by channels
  abbrev pub IsInbox : List (Key × Event P) → Type 0
  IsInbox l = (q : Key) (y : Event P) → IsAmong q y l → (c : ℕ) × (x : P) × (q.place ≡ Arrive c) × (y ≡ Delivery (Arrival c) x) × (here (Arrive c) ≡ true) × (here (Arrive (net.far_end c)) ≡ false)

  module _ (messages : List (Key × Event P)) (inbox : IsInbox messages) where
    abbrev begun : State P N
    begun = start net here messages

    begun_from : (q : Key) (y : Event P) → get begun.pending q ≡ Some y → ((i : ℕ) × (q.place ≡ Fire i) × (q.number ≡ 0) × (z : P) × (y ≡ Delivery (Source i) z) × (net.source i 0 ≡ Some (q.time, z))) ⊎ ((c : ℕ) × (x : P) × (q.place ≡ Arrive c) × (y ≡ Delivery (Arrival c) x) × (here (Arrive c) ≡ true) × (here (Arrive (net.far_end c)) ≡ false))
    begun_from q y e = ⊎_elim
        (λ a. inl (source_among net net.sources q y a))
        (λ f. ⊎_elim
        (λ a. inr (inbox q y a))
        (λ g. let none = get_empty {X = Event P} q in absurd (cc))
        (put_from (λ p. true) messages empty q y f))
        (put_from here (source_events net net.sources) _ q y e)

    pub orderly_start : IsOrderly net here (start net here messages)
    orderly_start = record {
      own = λ q h. put_elsewhere here (source_events net net.sources) _ q h ∙ own q h;
      busy = λ i b h e. absurd (cc);
      completion = λ i t n y e. absurd (⊎_elim (λ r. let z = r.1 in let w : Complete i ≡ Fire r.0 = z in complete_fire i r.0 w) (λ r. complete_arrive i r.0 r.2) (begun_from (key_of t (Complete i) n) y e));
      arrival = λ c t n y e. ⊎_elim (λ r. absurd (arrive_fire c r.0 r.1)) (λ r. (r.1, r.3 ∙ ap (λ d. Delivery (Arrival d) r.1) (sym (arrive_inj c r.0 r.2)))) (begun_from (key_of t (Arrive c) n) y e);
      inner = λ c t n y h e. absurd (⊎_elim (λ r. arrive_fire c r.0 r.1) (λ r. let z = arrive_inj c r.0 r.2 in true≢false (sym h ∙ ap (λ d. here (Arrive (net.far_end d))) z ∙ r.5)) (begun_from (key_of t (Arrive c) n) y e));
      source = λ j t n y e. ⊎_elim (λ r. (r.3, r.4 ∙ ap (λ i. Delivery (Source i) r.3) (sym (fire_inj j r.0 r.1)), ap₂ net.source (fire_inj j r.0 r.1) r.2 ∙ r.5)) (λ r. absurd (fire_arrive j r.0 r.2)) (begun_from (key_of t (Fire j) n) y e);
      one_source = λ j t u m n y z e f. first j t m y e ∙ sym (first j u n z f);
    }
      where
        first : (j t m : ℕ) (y : Event P) → get (start net here messages).pending (key_of t (Fire j) m) ≡ Some y → m ≡ 0
        first j t m y e = ⊎_elim (λ r. r.2) (λ r. absurd (fire_arrive j r.0 r.2)) (begun_from (key_of t (Fire j) m) y e)

        own : (q : Key) → here q.place ≡ false → get (schedule (λ p. true) messages empty) q ≡ None
        own q h = ⊎_elim
            (λ e. e)
            (λ e. absurd (⊎_elim
            (λ a. let r = inbox q e.0 a in true≢false (sym r.4 ∙ ap here (sym r.2) ∙ h))
            (λ g. let none = get_empty {X = Event P} q in let z : Some e.0 ≡ None = sym g ∙ none in cc)
            (put_from (λ p. true) messages empty q e.0 e.1)))
            (option_cases (get (schedule (λ p. true) messages empty) q))

  -- a step
  module _ (s : State P N) (o : IsOrderly net here s) (e : Key × Event P) (has : get s.pending e.0 ≡ Some e.1) where
    abbrev k : Key
    k = e.0

    abbrev does : Effect P N
    does = effect net s.node s.port e.0.time e.0.number e.1

    is : EffectIs net s.port e.0.time e.0.place e.0.number e.1 does
    is = effect_is net ok s.node s.port e.0.time e.0.place e.0.number e.1 (placed_of net here s o e.0 e.1 has)

    abbrev after : State P N
    after = step_at net here s (Some e)

    pub is_here : here e.0.place ≡ true
    is_here = ⊎_elim (λ h. h) (λ h. let none = o.own e.0 h in absurd (cc)) (bool_cases (here e.0.place))

    has_at : (q : Place) → e.0.place ≡ q → get s.pending (key_of e.0.time q e.0.number) ≡ Some e.1
    has_at q f = ap (get s.pending) (sym (key_at e.0 q f)) ∙ has

    start_here : (u : ℕ × P) → does.transmission ≡ Some u → here (Arrive u.0) ≡ true
    start_here u h = let d = is.transmission_turn u h in by_node (Arrive u.0) e.0.place (is.turn_owner (u.0, d.0) d.1) ∙ is_here

    same_transmission : (u v : ℕ × P) → does.transmission ≡ Some u → does.transmission ≡ Some v → u ≡ v
    same_transmission u v f g = some_inj u v (sym f ∙ g)

    -- what is put on the far end
    line : (u : ℕ × P) → does.transmission ≡ Some u → length (after.sent (net.far_end u.0)) ≡ suc (length (s.sent (net.far_end u.0)))
    line u h =
        let l = ap length (ap (λ z. sent_after net e.0.time s.sent z (net.far_end u.0)) h ∙ set_here s.sent (net.far_end u.0) _) in
        let m = length-append (s.sent (net.far_end u.0)) ((e.0.time + net.tx u.0 u.1 + net.delay u.0, u.1) ∷ []) in omega arith

    pub unstarted : (i : ℕ) → ((x : P) → does.transmission ≢ Some (i, x)) → after.sent (net.far_end i) ≡ s.sent (net.far_end i)
    unstarted i none = ⊎_elim
        (λ a. absurd (none a.0.1 (a.1 ∙ ap (λ j. Some (j, a.0.1)) (sym (far_end_inj net ok i a.0.0 a.2)))))
        (λ a. a.1)
        (sent_case net e.0.time s.sent does.transmission (net.far_end i))

    -- nothing starts at an interface whose port doesn't change
    pub unturned : (i : ℕ) → ((w : Port P) → does.turn ≢ Some (i, w)) → after.sent (net.far_end i) ≡ s.sent (net.far_end i)
    unturned i none = unstarted i (λ x h. let d = is.transmission_turn (i, x) h in none d.0 d.1)

    -- two completions of an interface are one
    one_completion : (i t n : ℕ) (y : Event P) → get s.pending (key_of t (Complete i) n) ≡ Some y → e.0.place ≡ Complete i → key_of t (Complete i) n ≡ e.0
    one_completion i t n y g pl =
        let a = o.completion i t n y g in
        let b = o.completion i e.0.time e.0.number e.1 (has_at (Complete i) pl) in
        let same : a.0 ≡ b.0 = some_inj a.0 b.0 (sym a.2 ∙ b.2) in
        same_key _ _ (sym a.3 ∙ ap (λ z. z.completes) same ∙ b.3) (sym pl) (omega (arith, a.4, b.4))

    -- an interface at which nothing starts and no transmission completes
    pub going_on : (i : ℕ) (b : Busy P) → (s.port i).busy ≡ Some b → (e.0.place ≢ Complete i) → (c : Busy P) × ((after.port i).busy ≡ Some c) × (c.completes ≡ b.completes) × (after.sent (net.far_end i) ≡ s.sent (net.far_end i))
    going_on i b f ne = ⊎_elim
        (λ t. ⊎_elim
        (λ z. absurd (ne (is.turn_idle (i, t.0) t.1 z)))
        (λ z. ⊎_elim
        (λ a. absurd (⊎_elim (λ free. not_some b (sym free ∙ f)) ne (is.transmission_free (i, a.0) a.1)))
        (λ a. (z.0, ap (λ w. w.busy) t.2 ∙ z.1, a.3 ∙ ap (λ c. c.completes) (some_inj a.0 b (sym a.2 ∙ f)), ap (λ v. sent_after net e.0.time s.sent v (net.far_end i)) a.1))
        (is.turn_busy (i, t.0) t.1 z.0 z.1))
        (option_cases t.0.busy))
        (λ t. (b, ap (λ w. w.busy) t.1 ∙ f, refl, unturned i t.0))
        (turned_case s.port does.turn i)

    completion_after : (i t n : ℕ) (y : Event P) → get after.pending (key_of t (Complete i) n) ≡ Some y → (b : Busy P) × (y ≡ Completion i) × ((after.port i).busy ≡ Some b) × (b.completes ≡ t) × (suc n ≡ length (after.sent (net.far_end i)))
    completion_after i t n y g = ⊎_elim new (λ h. old h.0 h.1) (pending_case net e.0 s.sent does here s.pending (key_of t (Complete i) n) y g)
      where
        old : key_of t (Complete i) n ≢ e.0 → get s.pending (key_of t (Complete i) n) ≡ Some y → (b : Busy P) × (y ≡ Completion i) × ((after.port i).busy ≡ Some b) × (b.completes ≡ t) × (suc n ≡ length (after.sent (net.far_end i)))
        old ne h =
            let a = o.completion i t n y h in
            let c = going_on i a.0 a.2 (λ pl. ne (one_completion i t n y h pl)) in
            (c.0, a.1, c.1, c.2 ∙ a.3, a.4 ∙ ap length (sym c.3))

        turned_to : (j : ℕ) (w : Port P) → does.turn ≡ Some (j, w) → after.port j ≡ w
        turned_to j w h = ⊎_elim
            (λ t. t.2 ∙ same_port t.0 (t.1))
            (λ t. absurd (t.0 w h))
            (turned_case s.port does.turn j)
          where
            same_port : (v : Port P) → does.turn ≡ Some (j, v) → v ≡ w
            same_port v f = ap (λ z. z.1) (some_inj {A = ℕ × Port P} (j, v) (j, w) (sym f ∙ h))

        at_start : (u : ℕ × P) → does.transmission ≡ Some u → (b : Busy P) × ((after.port u.0).busy ≡ Some b) × (b.completes ≡ e.0.time + net.tx u.0 u.1)
        at_start u h =
            let d = is.transmission_turn u h in
            ⊎_elim
            (λ z. absurd (d.2 z))
            (λ z. ⊎_elim
            (λ a. (z.0, ap (λ w. w.busy) (turned_to u.0 d.0 d.1) ∙ z.1, a.2 ∙ ap (λ (v : ℕ × P). e.0.time + net.tx u.0 v.1) (same_transmission (u.0, a.0) u a.1 h)))
            (λ a. absurd (not_some u (sym a.1 ∙ h)))
            (is.turn_busy (u.0, d.0) d.1 z.0 z.1))
            (option_cases d.0.busy)

        new : IsNew net e.0 s.sent does (key_of t (Complete i) n) y → (b : Busy P) × (y ≡ Completion i) × ((after.port i).busy ≡ Some b) × (b.completes ≡ t) × (suc n ≡ length (after.sent (net.far_end i)))
        new (Comes u h q z) = absurd (let w = ap (λ r. r.place) q in cc)
        new (GoesOn u h q z) = absurd (let w = ap (λ r. r.place) q in cc)
        new (Ends u h q z) =
            let iu : i ≡ u.0 = complete_inj _ _ (ap (λ r. r.place) q) in
            let b = at_start u h in
            let l = line u h in
            let num : n ≡ length (s.sent (net.far_end u.0)) = ap (λ r. r.number) q in
            (b.0, z ∙ ap Completion (sym iu), ap (λ j. (after.port j).busy) iu ∙ b.1, b.2 ∙ sym (ap (λ r. r.time) q), ap suc num ∙ sym l ∙ ap (λ j. length (after.sent (net.far_end j))) (sym iu))

    busy_after : (i : ℕ) (b : Busy P) → here (Complete i) ≡ true → (after.port i).busy ≡ Some b → (n : ℕ) × (suc n ≡ length (after.sent (net.far_end i))) × (get after.pending (key_of b.completes (Complete i) n) ≡ Some (Completion i))
    busy_after i b mn f = ⊎_elim
        (λ t. ⊎_elim
        (λ a. begins a.0 a.1 a.2)
        (λ a. stays a.0 a.2 a.3 (ap (λ v. sent_after net e.0.time s.sent v (net.far_end i)) a.1) a.4)
        (is.turn_busy (i, t.0) t.1 b (ap (λ w. w.busy) (sym t.2) ∙ f)))
        (λ t. stays b (ap (λ w. w.busy) (sym t.1) ∙ f) refl (unturned i t.0) (λ pl ev. let w = is.completes i pl ev in t.0 w.0 w.1))
        (turned_case s.port does.turn i)
      where
        stays : (c : Busy P) → (s.port i).busy ≡ Some c → b.completes ≡ c.completes → after.sent (net.far_end i) ≡ s.sent (net.far_end i) → (e.0.place ≡ Complete i → e.1 ≡ Completion i → ⊥) → (n : ℕ) × (suc n ≡ length (after.sent (net.far_end i))) × (get after.pending (key_of b.completes (Complete i) n) ≡ Some (Completion i))
        stays c g t same still =
            let a = o.busy i c mn g in (
              a.0,
              a.1 ∙ ap length (sym same),
              ap (λ u. get after.pending (key_of u (Complete i) a.0)) t ∙ pending_other net e.0 s.sent does here s.pending (key_of c.completes (Complete i) a.0) (not_done a.0 c a.2) (not_new a.0 c a.1) ∙ a.2,
            )
          where
            not_done : (n : ℕ) (c : Busy P) → get s.pending (key_of c.completes (Complete i) n) ≡ Some (Completion i) → key_of c.completes (Complete i) n ≢ e.0
            not_done n c h eq =
                let g' : get s.pending e.0 ≡ Some (Completion i) = ap (get s.pending) (sym eq) ∙ h in
                still (sym (ap (λ r. r.place) eq)) (some_inj e.1 (Completion i) (sym has ∙ g'))

            not_new : (n : ℕ) (c : Busy P) → suc n ≡ length (s.sent (net.far_end i)) → (z : Event P) → ¬ (IsNew net e.0 s.sent does (key_of c.completes (Complete i) n) z)
            not_new n c m z (Comes u h q i') = absurd (let w = ap (λ r. r.place) q in cc)
            not_new n c m z (GoesOn u h q i') = absurd (let w = ap (λ r. r.place) q in cc)
            not_new n c m z (Ends u h q i') =
                let iu : i ≡ u.0 = complete_inj _ _ (ap (λ r. r.place) q) in
                let num : n ≡ length (s.sent (net.far_end i)) = ap (λ r. r.number) q ∙ ap (λ j. length (s.sent (net.far_end j))) (sym iu) in
                omega arith

        begins : (x : P) → does.transmission ≡ Some (i, x) → b.completes ≡ e.0.time + net.tx i x → (n : ℕ) × (suc n ≡ length (after.sent (net.far_end i))) × (get after.pending (key_of b.completes (Complete i) n) ≡ Some (Completion i))
        begins x h t = (
          length (s.sent (net.far_end i)),
          sym (line (i, x) h),
          ap (λ u. get after.pending (key_of u (Complete i) (length (s.sent (net.far_end i))))) t
              ∙ put_has here (new_events net e.0 s.sent does) (remove s.pending e.0) _ (Completion i) mn (among_ends net e.0 s.sent does (i, x) h) (λ w a. only w (made_among net e.0 s.sent does _ w a)),
        )
          where
            only : (w : Event P) → IsNew net e.0 s.sent does (key_of (e.0.time + net.tx i x) (Complete i) (length (s.sent (net.far_end i)))) w → w ≡ Completion i
            only w (Ends v h' q z) = z ∙ ap Completion (sym (complete_inj _ _ (ap (λ r. r.place) q)))
            only w (Comes v h' q z) = absurd (let r = ap (λ r. r.place) q in cc)
            only w (GoesOn v h' q z) = absurd (let r = ap (λ r. r.place) q in cc)

    arrival_after : (c t n : ℕ) (y : Event P) → get after.pending (key_of t (Arrive c) n) ≡ Some y → (x : P) × (y ≡ Delivery (Arrival c) x)
    arrival_after c t n y g = ⊎_elim new (λ h. o.arrival c t n y h.1) (pending_case net e.0 s.sent does here s.pending (key_of t (Arrive c) n) y g)
      where
        new : IsNew net e.0 s.sent does (key_of t (Arrive c) n) y → (x : P) × (y ≡ Delivery (Arrival c) x)
        new (Ends u h q z) = absurd (let w = ap (λ r. r.place) q in cc)
        new (GoesOn u h q z) = absurd (let w = ap (λ r. r.place) q in cc)
        new (Comes u h q z) = (u.1, z ∙ ap (λ d. Delivery (Arrival d) u.1) (sym (arrive_inj _ _ (ap (λ r. r.place) q))))

    inner_after : (c t n : ℕ) (y : Event P) → here (Arrive (net.far_end c)) ≡ true → get after.pending (key_of t (Arrive c) n) ≡ Some y → n < length (after.sent c)
    inner_after c t n y mn g = ⊎_elim new (λ h. let l = o.inner c t n y mn h.1 in let m = prefix_length _ _ (sent_prefix net e.0.time s.sent does.transmission c) in omega arith) (pending_case net e.0 s.sent does here s.pending (key_of t (Arrive c) n) y g)
      where
        new : IsNew net e.0 s.sent does (key_of t (Arrive c) n) y → n < length (after.sent c)
        new (Ends u h q z) = absurd (let w = ap (λ r. r.place) q in cc)
        new (GoesOn u h q z) = absurd (let w = ap (λ r. r.place) q in cc)
        new (Comes u h q z) =
            let cu : c ≡ net.far_end u.0 = arrive_inj _ _ (ap (λ r. r.place) q) in
            let l = line u h in
            let num : n ≡ length (s.sent (net.far_end u.0)) = ap (λ r. r.number) q in
            let m = ap (λ d. length (after.sent d)) cu in omega arith

    -- the source's own event, and the next one
    source_new : (j t n : ℕ) (y : Event P) → IsNew net e.0 s.sent does (key_of t (Fire j) n) y → (x : P) × (y ≡ Delivery (Source j) x) × (net.source j n ≡ Some (t, x)) × (e.0.place ≡ Fire j) × (n ≡ suc e.0.number)
    source_new j t n y (Ends u h q z) = absurd (let w = ap (λ r. r.place) q in cc)
    source_new j t n y (Comes u h q z) = absurd (let w = ap (λ r. r.place) q in cc)
    source_new j t n y (GoesOn u h q z) =
        let a = is.follows_is u h in
        let jj : j ≡ u.0 = fire_inj _ _ (ap (λ r. r.place) q) in
        (u.2, z ∙ ap (λ i. Delivery (Source i) u.2) (sym jj), ap₂ net.source jj (ap (λ r. r.number) q) ∙ a.1 ∙ ap (λ v. Some (v, u.2)) (sym (ap (λ r. r.time) q)), a.0 ∙ ap Fire (sym jj), ap (λ r. r.number) q)

    one_fire : (j t n : ℕ) (y : Event P) → get s.pending (key_of t (Fire j) n) ≡ Some y → e.0.place ≡ Fire j → key_of t (Fire j) n ≡ e.0
    one_fire j t n y g pl =
        let num = o.one_source j t e.0.time n e.0.number y e.1 g (has_at (Fire j) pl) in
        let a = o.source j t n y g in
        let b = o.source j e.0.time e.0.number e.1 (has_at (Fire j) pl) in
        let w = same_time t e.0.time a.0 b.0 (net.source j n) a.2 (ap (net.source j) num ∙ b.2) in
        same_key _ _ w.0 (sym pl) num

    pub orderly_step_at : IsOrderly net here (step_at net here s (Some e))
    orderly_step_at = record {
      own = λ q h. put_elsewhere here (new_events net e.0 s.sent does) (remove s.pending e.0) q h ∙ ⊎_elim
          (λ f. subst (λ z. get (remove s.pending e.0) z ≡ None) (sym f) (remove_same s.pending e.0))
          (λ f. remove_other s.pending e.0 q f ∙ o.own q h)
          (key_decides q e.0);
      busy = busy_after;
      completion = completion_after;
      arrival = arrival_after;
      inner = inner_after;
      source = λ j t n y g. ⊎_elim (λ a. let r = source_new j t n y a in (r.0, r.1, r.2)) (λ h. o.source j t n y h.1) (pending_case net e.0 s.sent does here s.pending (key_of t (Fire j) n) y g);
      one_source = λ j t u m n y z f g. ⊎_elim
          (λ a. ⊎_elim
          (λ b. let r = source_new j t m y a in let q = source_new j u n z b in r.4 ∙ sym q.4)
          (λ b. let r = source_new j t m y a in absurd (b.0 (one_fire j u n z b.1 r.3)))
          (pending_case net e.0 s.sent does here s.pending (key_of u (Fire j) n) z g))
          (λ a. ⊎_elim
          (λ b. let r = source_new j u n z b in absurd (a.0 (one_fire j t m y a.1 r.3)))
          (λ b. o.one_source j t u m n y z a.1 b.1)
          (pending_case net e.0 s.sent does here s.pending (key_of u (Fire j) n) z g))
          (pending_case net e.0 s.sent does here s.pending (key_of t (Fire j) m) y f);
    }

    -- the events that an event makes are strictly later
    pub makes_later : (q : Key) (y : Event P) → IsNew net e.0 s.sent does q y → e.0.time < q.time
    makes_later q y (Ends t h f g) = let z = ok.takes_time t.0 t.1 in let w = ap (λ r. r.time) f in omega arith
    makes_later q y (Comes t h f g) = let z = ok.takes_time t.0 t.1 in let w = ap (λ r. r.time) f in omega arith
    makes_later q y (GoesOn f h g i) =
        let a = is.follows_is f h in
        let b = o.source f.0 e.0.time e.0.number e.1 (has_at (Fire f.0) a.0) in
        let r = ok.rises f.0 e.0.number (e.0.time, b.0) (f.1, f.2) b.2 a.1 in
        let w = ap (λ r. r.time) g in omega arith

    -- the keys of the events that an event makes are new
    pub fresh_key : (q : Key) (y : Event P) → IsNew net e.0 s.sent does q y → get (remove s.pending e.0) q ≡ None
    fresh_key q y new = ⊎_elim
        (λ f. f)
        (λ f. absurd (⊎_elim
        (λ h. let g = remove_same s.pending e.0 in let z : get (remove s.pending e.0) e.0 ≡ Some f.0 = ap (get (remove s.pending e.0)) (sym h) ∙ f.1 in not_some f.0 (sym g ∙ z))
        (λ h. taken q f.0 h (sym (remove_other s.pending e.0 q h) ∙ f.1) new)
        (key_decides q e.0)))
        (option_cases (get (remove s.pending e.0) q))
      where
        taken : (q : Key) (z : Event P) → q ≢ e.0 → get s.pending q ≡ Some z → IsNew net e.0 s.sent does q y → ⊥
        taken q z ne g (Ends u h f i) =
            let a = o.completion u.0 (e.0.time + net.tx u.0 u.1) (length (s.sent (net.far_end u.0))) z (ap (get s.pending) (sym f) ∙ g) in omega (arith, a.4)
        taken q z ne g (Comes u h f i) =
            let far : here (Arrive (net.far_end (net.far_end u.0))) ≡ true = ap (λ j. here (Arrive j)) (ok.twice u.0) ∙ start_here u h in
            let l = o.inner (net.far_end u.0) (e.0.time + net.tx u.0 u.1 + net.delay u.0) (length (s.sent (net.far_end u.0))) z far (ap (get s.pending) (sym f) ∙ g) in omega arith
        taken q z ne g (GoesOn u h f i) =
            let a = is.follows_is u h in
            let at : get s.pending (key_of u.1 (Fire u.0) (suc e.0.number)) ≡ Some z = ap (get s.pending) (sym f) ∙ g in
            ne (f ∙ one_fire u.0 u.1 (suc e.0.number) z at a.0)

  pub orderly_step : (s : State P N) → IsOrderly net here s → (o : Option (Key × Event P)) → least s.pending ≡ o → IsOrderly net here (step_at net here s o)
  orderly_step s h None m = h
  orderly_step s h (Some e) m = orderly_step_at s h e (least_has s.pending e m)

  pub orderly_run : (n : ℕ) (s : State P N) → IsOrderly net here s → IsOrderly net here (run net here n s)
  orderly_run zero s h = h
  orderly_run (suc n) s h = orderly_step (run net here n s) (orderly_run n s h) _ refl

module _ {P N : Type 0} (net : Net P N) (here : Place → Bool) where
  -- a message that comes by a channel
  pub orderly_put : (s : State P N) → IsOrderly net here s → (c t n : ℕ) (x : P) → here (Arrive c) ≡ true → here (Arrive (net.far_end c)) ≡ false → IsOrderly net here (record s { pending = insert s.pending (key_of t (Arrive c) n) (Delivery (Arrival c) x) })
  orderly_put s h c t n x mn far = record {
    own = λ q f. other q (λ e. true≢false (sym mn ∙ ap here (sym (ap (λ r. r.place) e)) ∙ f)) ∙ h.own q f;
    busy = λ i b f g. let a = h.busy i b f g in (a.0, a.1, other (key_of b.completes (Complete i) a.0) (λ e. let z = ap (λ r. r.place) e in complete_arrive i c z) ∙ a.2);
    completion = λ i u m y e. h.completion i u m y (sym (other (key_of u (Complete i) m) (λ f. let z = ap (λ r. r.place) f in complete_arrive i c z)) ∙ e);
    arrival = λ d u m y e. ⊎_elim
        (λ f. (x, some_inj y (Delivery (Arrival c) x) (sym (ap (get (insert s.pending (key_of t (Arrive c) n) (Delivery (Arrival c) x))) (sym f) ∙ e) ∙ insert_same s.pending (key_of t (Arrive c) n) (Delivery (Arrival c) x)) ∙ ap (λ i. Delivery (Arrival i) x) (sym (arrive_inj d c (ap (λ r. r.place) f)))))
        (λ f. h.arrival d u m y (sym (other (key_of u (Arrive d) m) f) ∙ e))
        (key_decides (key_of u (Arrive d) m) (key_of t (Arrive c) n));
    inner = λ d u m y g e. h.inner d u m y g (sym (other (key_of u (Arrive d) m) (λ f. let z = arrive_inj d c (ap (λ r. r.place) f) in true≢false (sym g ∙ ap (λ j. here (Arrive (net.far_end j))) z ∙ far))) ∙ e);
    source = λ j u m y e. h.source j u m y (sym (other (key_of u (Fire j) m) (λ f. let z = ap (λ r. r.place) f in fire_arrive j c z)) ∙ e);
    one_source = λ j u v m k y z e f. h.one_source j u v m k y z (sym (other (key_of u (Fire j) m) (λ g. let z = ap (λ r. r.place) g in fire_arrive j c z)) ∙ e) (sym (other (key_of v (Fire j) k) (λ g. let z = ap (λ r. r.place) g in fire_arrive j c z)) ∙ f);
  }
    where
      other : (q : Key) → q ≢ key_of t (Arrive c) n → get (insert s.pending (key_of t (Arrive c) n) (Delivery (Arrival c) x)) q ≡ get s.pending q
      other q f = insert_other s.pending (key_of t (Arrive c) n) (Delivery (Arrival c) x) q f

-- the events that an event makes are at different places
module _ {P N : Type 0} (net : Net P N) where
  apart : (k : Key) (sent : ℕ → List (ℕ × P)) (begins : Option (ℕ × P)) (follows : Option (ℕ × ℕ × P)) → (m n : ℕ) (f g : Key × Event P) → m < n → nth (transmission_events net k.time sent begins ++ next_events k.number follows) m ≡ Some f → nth (transmission_events net k.time sent begins ++ next_events k.number follows) n ≡ Some g → f.0.place ≢ g.0.place
  apart k sent None None m n f g lt a b = absurd (cc)
  apart k sent None (Some v) m zero f g lt a b = absurd (omega arith)
  apart k sent None (Some v) m (suc n) f g lt a b = absurd (cc)
  apart k sent (Some u) None m zero f g lt a b = absurd (omega arith)
  apart k sent (Some u) None zero (suc zero) f g lt a b = λ e. complete_arrive u.0 (net.far_end u.0) (ap (λ z. z.0.place) (some_inj _ f a) ∙ e ∙ ap (λ z. z.0.place) (sym (some_inj _ g b)))
  apart k sent (Some u) None (suc m) (suc zero) f g lt a b = absurd (omega arith)
  apart k sent (Some u) None m (suc (suc n)) f g lt a b = absurd (cc)
  apart k sent (Some u) (Some v) m zero f g lt a b = absurd (omega arith)
  apart k sent (Some u) (Some v) zero (suc zero) f g lt a b = λ e. complete_arrive u.0 (net.far_end u.0) (ap (λ z. z.0.place) (some_inj _ f a) ∙ e ∙ ap (λ z. z.0.place) (sym (some_inj _ g b)))
  apart k sent (Some u) (Some v) (suc m) (suc zero) f g lt a b = absurd (omega arith)
  apart k sent (Some u) (Some v) zero (suc (suc zero)) f g lt a b = λ e. complete_fire u.0 v.0 (ap (λ z. z.0.place) (some_inj _ f a) ∙ e ∙ ap (λ z. z.0.place) (sym (some_inj _ g b)))
  apart k sent (Some u) (Some v) (suc zero) (suc (suc zero)) f g lt a b = λ e. arrive_fire (net.far_end u.0) v.0 (ap (λ z. z.0.place) (some_inj _ f a) ∙ e ∙ ap (λ z. z.0.place) (sym (some_inj _ g b)))
  apart k sent (Some u) (Some v) (suc (suc m)) (suc (suc zero)) f g lt a b = absurd (omega arith)
  apart k sent (Some u) (Some v) m (suc (suc (suc n))) f g lt a b = absurd (cc)

  pub made_apart : (s : State P N) (e : Key × Event P) (m n : ℕ) (f g : Key × Event P) → m < n → nth (made net s e) m ≡ Some f → nth (made net s e) n ≡ Some g → f.0 ≢ g.0
  made_apart s e m n f g lt a b h =
      let does = effect net s.node s.port e.0.time e.0.number e.1 in
      apart e.0 s.sent does.transmission does.follows m n f g lt a b (ap (λ z. z.place) h)

module _ {P N : Type 0} (net : Net P N) where
  pub part_by_node : (p : ℕ) → IsByNode net (in_part net p)
  part_by_node p q r e = ap (λ v. net.part v == p) e

  pub all_by_node : IsByNode net (λ q. true)
  all_by_node q r e = refl

  pub orderly_whole : IsNet net → (n : ℕ) → IsOrderly net (λ q. true) (one_list net n)
  orderly_whole ok n = orderly_run net ok (λ q. true) all_by_node n _ (orderly_start net ok (λ q. true) all_by_node [] (λ q y a. absurd a))
