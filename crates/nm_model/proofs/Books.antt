-- Over more knowledge a partition is as before, with the new messages pending.
use Rattle.std.proofs.Common.{◌≡◌, inl, inr, ℕ, zero, suc, ◌<◌, ◌≤◌, Bool, true, false, cond, ltb, leb, min, ◌==◌, List, [], ◌∷◌, length, Option, Some, None, refl, sym, ap, ◌∙◌, subst, arith, ⊎_elim}
use Rattle.std.proofs.lemmas.Bool.{cases_lt}
use Rattle.std.proofs.lemmas.Bool.Decides.{nat_tests}
use Rattle.std.specs.FinMap.{FinMap, get, remove, empty}
use Rattle.nm_base.specs.declared.key.Place.{Place}
use Rattle.nm_base.specs.declared.key.Place.TheVariants.{Arrive, Complete, Fire}
use Rattle.nm_base.specs.declared.key.Key.{Key}
use Rattle.nm_base.specs.Key.{key_of, key_cmp}
use Rattle.nm_model.specs.EventList.{least, schedule, is_before}
use Rattle.nm_model.specs.Replica.{inbox_events, is_past, new_messages, with_new, from_scratch, safe_time, safe_among, IsWithin, IsUnderAll}
use Rattle.nm_model.specs.Knowledge.{Knowledge}
use Rattle.nm_model.specs.Partition.{in_part, comes_in}
use Rattle.nm_model.specs.Lists.{nth, keep_where}
use Rattle.nm_model.specs.Network.{Net, IsNet, node_of}
use Rattle.nm_model.specs.Run.{State, Effect, effect, apply, new_events, step, step_at, start, source_events}
use Rattle.nm_base.specs.declared.event.Event.TheVariants.{Delivery}
use Rattle.nm_base.specs.declared.event.Origin.TheVariants.{Arrival}
use Rattle.nm_base.specs.Event.{event_place}
use Rattle.nm_model.proofs.Keys.{key_at, key_decides, same_events, remove_same, remove_other, least_has, least_min, least_is, up_to_earlier}
use Rattle.nm_model.proofs.ListLemmas.{bool_cases, nth_prefix, prefix_nth}
use Rattle.nm_model.proofs.Scheduling.{IsAmong, put_from, put_has, put_absent, put_alike, put_elsewhere}
use Rattle.nm_model.proofs.Effects.{effect_is}
use Rattle.nm_model.specs.Orderly.{IsOrderly}
use Rattle.nm_model.proofs.Placed.{placed_of}
use Rattle.nm_model.proofs.Orders.{is_here, part_by_node}
use Rattle.nm_model.proofs.NewEvents.{arrive_inj, absent_unless, IsNew, Ends, Comes, GoesOn, made_among}
use Rattle.nm_model.proofs.Cut.{and_both, not_true, both_ways, safe_clock, channel_inside}
use Rattle.nm_model.proofs.Begin.{inbox_at, at_inbox, messages_are, messages_have, messages_only, no_source, orderly_part}
use Rattle.nm_model.proofs.CutLaw.{least_busy}
use Rattle.nm_base.specs.declared.event.Event.{Event}

option_same : {A : Type 0} (o p : Option A) → ((x : A) → o ≡ Some x → p ≡ Some x) → ((x : A) → p ≡ Some x → o ≡ Some x) → o ≡ p
option_same None None f g = refl
option_same None (Some y) f g = g y refl
option_same (Some x) p f g = sym (f x refl)

module _ {X : Type 0} (f : Key × X → Bool) where
  among_kept : (q : Key) (v : X) (es : List (Key × X)) → IsAmong q v (keep_where f es) → IsAmong q v es × (f (q, v) ≡ true)
  among_kept q v [] a = absurd a
  among_kept q v (e ∷ es) a = go (f e) refl a (λ b. among_kept q v es b)
    where
      go : (b : Bool) → f e ≡ b → IsAmong q v (cond b (e ∷ keep_where f es) (keep_where f es)) → (IsAmong q v (keep_where f es) → IsAmong q v es × (f (q, v) ≡ true)) → IsAmong q v (e ∷ es) × (f (q, v) ≡ true)
      go true h (inl c) rest = (inl c, ap f (λ i. (c.0 i, c.1 i)) ∙ h)
      go true h (inr c) rest = let r = rest c in (inr r.0, r.1)
      go false h c rest = let r = rest c in (inr r.0, r.1)

  kept_among : (q : Key) (v : X) (es : List (Key × X)) → IsAmong q v es → f (q, v) ≡ true → IsAmong q v (keep_where f es)
  kept_among q v [] a h = absurd a
  kept_among q v (e ∷ es) a h = go (f e) refl a (λ b. kept_among q v es b h)
    where
      go : (b : Bool) → f e ≡ b → IsAmong q v (e ∷ es) → (IsAmong q v es → IsAmong q v (keep_where f es)) → IsAmong q v (cond b (e ∷ keep_where f es) (keep_where f es))
      go true i (inl c) rest = inl c
      go true i (inr c) rest = inr (rest c)
      go false i (inl c) rest = both_ways (f (q, v)) h (ap f (λ j. (c.0 j, c.1 j)) ∙ i)
      go false i (inr c) rest = rest c

still_absent : {X : Type 0} (m : FinMap key_cmp X) (k q : Key) → get m q ≡ None → get (remove m k) q ≡ None
still_absent m k q none = ⊎_elim
    (λ f. subst (λ z. get (remove m k) z ≡ None) (sym f) (remove_same m k))
    (λ f. remove_other m k q f ∙ none)
    (key_decides q k)

module _ {P N : Type 0} (net : Net P N) (ok : IsNet net) (p : ℕ) where
  -- a partition's pending events are its own
  alien_step : (s : State P N) → ((q : Key) → in_part net p q.place ≡ false → get s.pending q ≡ None) → (o : Option (Key × Event P)) → (q : Key) → in_part net p q.place ≡ false → get (step_at net (in_part net p) s o).pending q ≡ None
  alien_step s h None q mq = h q mq
  alien_step s h (Some e) q mq = put_elsewhere (in_part net p) (new_events net e.0 s.sent (effect net s.node s.port e.0.time e.0.number e.1)) (remove s.pending e.0) q mq ∙ still_absent s.pending e.0 q (h q mq)

  pub alien : (K : Knowledge P) (k : ℕ) (q : Key) → in_part net p q.place ≡ false → get (from_scratch net p K k).pending q ≡ None
  alien K zero q mq = put_elsewhere (in_part net p) (source_events net net.sources) _ q mq ∙ messages_only net p K q (λ c pl ch. both_ways (in_part net p q.place) (ap (in_part net p) pl ∙ (and_both _ _ ch).0) mq)
  alien K (suc k) q mq = alien_step (from_scratch net p K k) (alien K k) (least (from_scratch net p K k).pending) q mq

  pub placed_there : (K : Knowledge P) (k : ℕ) (e : Key × Event P) → get (from_scratch net p K k).pending e.0 ≡ Some e.1 → e.0.place ≡ event_place e.1
  placed_there K k e has = placed_of net (in_part net p) (from_scratch net p K k) (orderly_part net ok p K k) e.0 e.1 has

  -- no event that one of the partition makes comes in by a channel
  pub not_by_channel : (s : State P N) (e : Key × Event P) → e.0.place ≡ event_place e.1 → in_part net p e.0.place ≡ true → (c : ℕ) (q : Key) → q.place ≡ Arrive c → comes_in net p c ≡ true → (y : Event P) → ¬ (IsNew net e.0 s.sent (effect net s.node s.port e.0.time e.0.number e.1) q y)
  not_by_channel s e placed mn c q pl ch y (Ends u f g i) = let w : Arrive c ≡ Complete u.0 = sym pl ∙ ap (λ r. r.place) g in cc
  not_by_channel s e placed mn c q pl ch y (GoesOn u f g i) = let w : Arrive c ≡ Fire u.0 = sym pl ∙ ap (λ r. r.place) g in cc
  not_by_channel s e placed mn c q pl ch y (Comes u f g i) =
      let is = effect_is net ok s.node s.port e.0.time e.0.place e.0.number e.1 placed in
      let pc : c ≡ net.far_end u.0 = arrive_inj _ _ (sym pl ∙ ap (λ r. r.place) g) in
      let d = is.transmission_turn u f in
      let own : net.owner u.0 ≡ node_of net e.0.place = is.turn_owner (u.0, d.0) d.1 in
      let far : in_part net p (Arrive (net.far_end c)) ≡ true = ap (λ j. in_part net p (Arrive (net.far_end j))) pc ∙ ap (λ j. in_part net p (Arrive j)) (ok.twice u.0) ∙ ap (λ v. net.part v == p) own ∙ mn in
      both_ways (in_part net p (Arrive (net.far_end c))) far (not_true _ (and_both _ _ ch).1)

  -- so what wasn't told isn't pending after a step either
  untold_at : (s : State P N) (q : Key) (c : ℕ) → q.place ≡ Arrive c → comes_in net p c ≡ true → get s.pending q ≡ None → (o : Option (Key × Event P)) → ((e : Key × Event P) → o ≡ Some e → (e.0.place ≡ event_place e.1) × (in_part net p e.0.place ≡ true)) → get (step_at net (in_part net p) s o).pending q ≡ None
  untold_at s q c pl ch none None mn = none
  untold_at s q c pl ch none (Some e) mn =
      let made = new_events net e.0 s.sent (effect net s.node s.port e.0.time e.0.number e.1) in
      put_absent (in_part net p) made (remove s.pending e.0) q
      (absent_unless q made (λ v a. not_by_channel s e (mn e refl).0 (mn e refl).1 c q pl ch v (made_among net e.0 s.sent _ q v a)))
      ∙ still_absent s.pending e.0 q none

  pub untold_step : (s : State P N) → IsOrderly net (in_part net p) s → (c t n : ℕ) → comes_in net p c ≡ true → get s.pending (key_of t (Arrive c) n) ≡ None → get (step net (in_part net p) s).pending (key_of t (Arrive c) n) ≡ None
  untold_step s o c t n ch none = untold_at s (key_of t (Arrive c) n) c refl ch none (least s.pending) (λ e h.
      let has = least_has s.pending e h in (placed_of net (in_part net p) s o e.0 e.1 has, is_here net ok (in_part net p) (part_by_node net p) s o e has))

  module _ (K J : Knowledge P) (under : IsUnderAll net p K J) where
    abbrev pub more : FinMap key_cmp (Event P) → FinMap key_cmp (Event P)
    more m = schedule (λ q. true) (new_messages net p K J) m

    pub new_among : (q : Key) (y : Event P) → IsAmong q y (new_messages net p K J) → (c : ℕ) × (q.place ≡ Arrive c) × (comes_in net p c ≡ true) × (length (K c).list ≤ q.number) × (z : P) × (y ≡ Delivery (Arrival c) z) × (nth (J c).list q.number ≡ Some (q.time, z))
    new_among q y a =
        let b = among_kept (λ e. is_past K e.0.place e.0.number) q y _ a in
        let r = inbox_at net p J q y b.0 in
        let f : leb (length (K r.0).list) q.number ≡ true = ap (λ pl. is_past K pl q.number) (sym r.1) ∙ b.1 in
        (r.0, r.1, r.2, grind (arith, nat_tests), r.3, r.4, r.5)

    among_new : (c n t : ℕ) (y : P) → comes_in net p c ≡ true → length (K c).list ≤ n → nth (J c).list n ≡ Some (t, y) → IsAmong (key_of t (Arrive c) n) (Delivery (Arrival c) y) (new_messages net p K J)
    among_new c n t y ch le e = kept_among (λ e. is_past K e.0.place e.0.number) (key_of t (Arrive c) n) (Delivery (Arrival c) y) _ (at_inbox net p ok J c n t y ch e) (grind (arith, nat_tests))

    pub new_later : (q : Key) (y : Event P) → IsAmong q y (new_messages net p K J) → safe_time net p K ≤ q.time
    new_later q y a =
        let r = new_among q y a in
        let l = (under r.0 r.2).later q.number (q.time, r.4) r.3 r.6 in
        let s = safe_clock net p K r.0 net.ifaces (channel_inside net p ok r.0 r.2) r.2 in omega arith

    more_other : (m : FinMap key_cmp (Event P)) (q : Key) → ((c : ℕ) → q.place ≡ Arrive c → comes_in net p c ≡ true → ⊥) → get (more m) q ≡ get m q
    more_other m q h = put_absent (λ q. true) (new_messages net p K J) m q (absent_unless q _ (λ v a. let r = new_among q v a in h r.0 r.1 r.2))

    more_early : (m : FinMap key_cmp (Event P)) (q : Key) → q.time < safe_time net p K → get (more m) q ≡ get m q
    more_early m q lt = put_absent (λ q. true) (new_messages net p K J) m q (absent_unless q _ (λ v a. let r = new_later q v a in omega arith))

    pub more_has : (m : FinMap key_cmp (Event P)) (c n t : ℕ) (y : P) → comes_in net p c ≡ true → length (K c).list ≤ n → nth (J c).list n ≡ Some (t, y) → get (more m) (key_of t (Arrive c) n) ≡ Some (Delivery (Arrival c) y)
    more_has m c n t y ch le e = put_has (λ q. true) (new_messages net p K J) m (key_of t (Arrive c) n) (Delivery (Arrival c) y) refl (among_new c n t y ch le e) one
      where
        one : (w : Event P) → IsAmong (key_of t (Arrive c) n) w (new_messages net p K J) → w ≡ Delivery (Arrival c) y
        one w a =
            let r = new_among _ w a in
            let f : nth (J c).list n ≡ Some (t, r.4) = ap (λ d. nth (J d).list n) (arrive_inj c r.0 r.1) ∙ r.6 in
            let g : ◌≡◌ {A = ℕ × P} (t, r.4) (t, y) = cc in r.5 ∙ ap (λ d. Delivery (Arrival d) r.4) (sym (arrive_inj c r.0 r.1)) ∙ ap (λ z. Delivery (Arrival c) z.1) g

    -- at the start
    begun_at : (c t n : ℕ) → comes_in net p c ≡ true → get (schedule (λ q. true) (inbox_events net p J) empty) (key_of t (Arrive c) n) ≡ get (more (start net (in_part net p) (inbox_events net p K)).pending) (key_of t (Arrive c) n)
    begun_at c t n ch = option_same _ _ to back
      where
        to : (x : Event P) → get (schedule (λ q. true) (inbox_events net p J) empty) (key_of t (Arrive c) n) ≡ Some x → get (more (start net (in_part net p) (inbox_events net p K)).pending) (key_of t (Arrive c) n) ≡ Some x
        to x e =
            let m = messages_are net p J c t n x e in
            ⊎_elim
            (λ lt.
            let b = nth_prefix _ _ n (t, m.1) (under c ch).begins lt m.3 in
            put_absent (λ q. true) (new_messages net p K J) _ (key_of t (Arrive c) n) (absent_unless _ _ (λ v z. let r = new_among _ v z in let f = ap (λ d. length (K d).list) (arrive_inj c r.0 r.1) in omega (arith, r.3)))
            ∙ no_source net p (key_of t (Arrive c) n) c refl (in_part net p) _ ∙ messages_have net p ok K c t n m.1 ch b ∙ ap Some (sym m.2))
            (λ le. more_has _ c n t m.1 ch le m.3 ∙ ap Some (sym m.2))
            (cases_lt n (length (K c).list))

        back : (x : Event P) → get (more (start net (in_part net p) (inbox_events net p K)).pending) (key_of t (Arrive c) n) ≡ Some x → get (schedule (λ q. true) (inbox_events net p J) empty) (key_of t (Arrive c) n) ≡ Some x
        back x e = ⊎_elim
            (λ a. let r = new_among _ x a in messages_have net p ok J c t n r.4 ch (ap (λ d. nth (J d).list n) (arrive_inj c r.0 r.1) ∙ r.6) ∙ ap (λ d. Some (Delivery (Arrival d) r.4)) (arrive_inj c r.0 r.1) ∙ ap Some (sym r.5))
            (λ f. let a = messages_are net p K c t n x (sym (no_source net p (key_of t (Arrive c) n) c refl (in_part net p) _) ∙ f) in messages_have net p ok J c t n a.1 ch (prefix_nth _ _ n (t, a.1) (under c ch).begins a.3) ∙ ap Some (sym a.2))
            (put_from (λ q. true) (new_messages net p K J) _ (key_of t (Arrive c) n) x e)

    begun : (q : Key) → get (start net (in_part net p) (inbox_events net p J)).pending q ≡ get (more (start net (in_part net p) (inbox_events net p K)).pending) q
    begun q = go q.place refl
      where
        plain : ((c : ℕ) → q.place ≡ Arrive c → comes_in net p c ≡ true → ⊥) → get (start net (in_part net p) (inbox_events net p J)).pending q ≡ get (more (start net (in_part net p) (inbox_events net p K)).pending) q
        plain h = put_alike (in_part net p) (in_part net p) (source_events net net.sources) _ _ q refl (messages_only net p J q h ∙ sym (messages_only net p K q h)) ∙ sym (more_other _ q h)

        go : (pl : Place) → q.place ≡ pl → get (start net (in_part net p) (inbox_events net p J)).pending q ≡ get (more (start net (in_part net p) (inbox_events net p K)).pending) q
        go (Complete i) e = plain (λ c f ch. let z : Complete i ≡ Arrive c = sym e ∙ f in cc)
        go (Fire j) e = plain (λ c f ch. let z : Fire j ≡ Arrive c = sym e ∙ f in cc)
        go (Arrive c) e = ⊎_elim
            (λ ch. subst Same (sym (key_at q (Arrive c) e)) (no_source net p (key_of q.time (Arrive c) q.number) c refl (in_part net p) _ ∙ begun_at c q.time q.number ch))
            (λ ch. plain (λ d f dh. both_ways (comes_in net p d) dh (ap (comes_in net p) (arrive_inj d c (sym f ∙ e)) ∙ ch)))
            (bool_cases (comes_in net p c))
          where
            Same : Key → Type 0
            Same z = get (start net (in_part net p) (inbox_events net p J)).pending z ≡ get (more (start net (in_part net p) (inbox_events net p K)).pending) z

    -- an event of the partition below the safe time
    module _ (s : State P N) (e : Key × Event P) (m : least s.pending ≡ Some e) (placed : e.0.place ≡ event_place e.1) (mn : in_part net p e.0.place ≡ true) (lt : e.0.time < safe_time net p K) where
      abbrev does : Effect P N
      does = effect net s.node s.port e.0.time e.0.number e.1

      least_more : least (more s.pending) ≡ Some e
      least_more = least_is (more s.pending) e.0 e.1
          (more_early s.pending e.0 lt ∙ least_has s.pending e m)
          (λ q y f. ⊎_elim
          (λ a. let r = new_later q y a in up_to_earlier e.0 q (omega arith))
          (λ h. least_min s.pending e q y m h)
          (put_from (λ q. true) (new_messages net p K J) s.pending q y f))

      removed_more : (q : Key) → get (remove (more s.pending) e.0) q ≡ get (more (remove s.pending e.0)) q
      removed_more q = ⊎_elim
          (λ f. subst (λ z. get (remove (more s.pending) e.0) z ≡ get (more (remove s.pending e.0)) z) (sym f)
          (remove_same (more s.pending) e.0 ∙ sym (more_early (remove s.pending e.0) e.0 lt ∙ remove_same s.pending e.0)))
          (λ f. remove_other (more s.pending) e.0 q f ∙ put_alike (λ z. true) (λ z. true) (new_messages net p K J) s.pending (remove s.pending e.0) q refl (sym (remove_other s.pending e.0 q f)))
          (key_decides q e.0)

      pending_more : (q : Key) → get (schedule (in_part net p) (new_events net e.0 s.sent does) (remove (more s.pending) e.0)) q ≡ get (more (schedule (in_part net p) (new_events net e.0 s.sent does) (remove s.pending e.0))) q
      pending_more q = go q.place refl
        where
          plain : ((c : ℕ) → q.place ≡ Arrive c → comes_in net p c ≡ true → ⊥) → get (schedule (in_part net p) (new_events net e.0 s.sent does) (remove (more s.pending) e.0)) q ≡ get (more (schedule (in_part net p) (new_events net e.0 s.sent does) (remove s.pending e.0))) q
          plain h = put_alike (in_part net p) (in_part net p) (new_events net e.0 s.sent does) _ _ q refl (removed_more q ∙ more_other (remove s.pending e.0) q h) ∙ sym (more_other _ q h)

          go : (pl : Place) → q.place ≡ pl → get (schedule (in_part net p) (new_events net e.0 s.sent does) (remove (more s.pending) e.0)) q ≡ get (more (schedule (in_part net p) (new_events net e.0 s.sent does) (remove s.pending e.0))) q
          go (Complete i) f = plain (λ c g ch. let z : Complete i ≡ Arrive c = sym f ∙ g in cc)
          go (Fire j) f = plain (λ c g ch. let z : Fire j ≡ Arrive c = sym f ∙ g in cc)
          go (Arrive c) f = ⊎_elim
              (λ ch.
              let absent = absent_unless q (new_events net e.0 s.sent does) (λ v a. not_by_channel s e placed mn c q f ch v (made_among net e.0 s.sent does q v a)) in
              put_absent (in_part net p) (new_events net e.0 s.sent does) _ q absent ∙ removed_more q
              ∙ put_alike (λ z. true) (λ z. true) (new_messages net p K J) _ _ q refl (sym (put_absent (in_part net p) (new_events net e.0 s.sent does) (remove s.pending e.0) q absent)))
              (λ ch. plain (λ d g dh. both_ways (comes_in net p d) dh (ap (comes_in net p) (arrive_inj d c (sym g ∙ f)) ∙ ch)))
              (bool_cases (comes_in net p c))

      pub step_more : step net (in_part net p) (with_new net p K J s) ≡ with_new net p K J (step net (in_part net p) s)
      step_more =
          let a : step net (in_part net p) (with_new net p K J s) ≡ apply net (in_part net p) e.0 does (with_new net p K J s) = ap (step_at net (in_part net p) (with_new net p K J s)) least_more in
          let b : with_new net p K J (apply net (in_part net p) e.0 does s) ≡ with_new net p K J (step net (in_part net p) s) = ap (λ o. with_new net p K J (step_at net (in_part net p) s o)) (sym m) in
          let same = same_events (schedule (in_part net p) (new_events net e.0 s.sent does) (remove (more s.pending) e.0)) (more (schedule (in_part net p) (new_events net e.0 s.sent does) (remove s.pending e.0))) pending_more in
          let c : apply net (in_part net p) e.0 does (with_new net p K J s) ≡ with_new net p K J (apply net (in_part net p) e.0 does s) = ap (λ z. record (apply net (in_part net p) e.0 does s) { pending = z }) same in
          a ∙ c ∙ b

    pub books : (k : ℕ) → IsWithin net p K k → from_scratch net p J k ≡ with_new net p K J (from_scratch net p K k)
    books zero w = ap (λ z. record (start net (in_part net p) (inbox_events net p K)) { pending = z }) (same_events (start net (in_part net p) (inbox_events net p J)).pending (more (start net (in_part net p) (inbox_events net p K)).pending) begun)
    books (suc k) w =
        let r = books k (λ m lt. w m (omega arith)) in
        let x = least_busy (safe_time net p K) (from_scratch net p K k) (w k (omega arith)) in
        ap (step net (in_part net p)) r ∙ step_more (from_scratch net p K k) x.0 x.1 (placed_there K k x.0 (least_has _ x.0 x.1)) (is_own x.0 (least_has _ x.0 x.1)) x.2
      where
        is_own : (e : Key × Event P) → get (from_scratch net p K k).pending e.0 ≡ Some e.1 → in_part net p e.0.place ≡ true
        is_own e h = ⊎_elim (λ t. t) (λ f. let none = alien K k e.0 f in absurd (cc)) (bool_cases (in_part net p e.0.place))

    pub safe_rises : (n : ℕ) → n ≤ net.ifaces → safe_among net p K n ≤ safe_among net p J n
    safe_rises zero h = omega arith
    safe_rises (suc n) h = go (comes_in net p n) refl (safe_rises n (omega arith))
      where
        go : (b : Bool) → comes_in net p n ≡ b → safe_among net p K n ≤ safe_among net p J n → cond b (min (K n).clock (safe_among net p K n)) (safe_among net p K n) ≤ cond b (min (J n).clock (safe_among net p J n)) (safe_among net p J n)
        go true e r = let c = (under n e).clock in omega arith
        go false e r = r

    pub within_more : (k : ℕ) → IsWithin net p K k → IsWithin net p J k
    within_more k w m lt =
        let r = books m (λ i il. w i (omega arith)) in
        let x = least_busy (safe_time net p K) (from_scratch net p K m) (w m lt) in
        let has = least_has _ x.0 x.1 in
        let own = ⊎_elim (λ t. t) (λ f. let none = alien K m x.0.0 f in absurd (cc)) (bool_cases (in_part net p x.0.0.place)) in
        let l : least (from_scratch net p J m).pending ≡ Some x.0 = ap (λ s. least s.pending) r ∙ least_more (from_scratch net p K m) x.0 x.1 (placed_there K m x.0 has) own x.2 in
        let s = safe_rises net.ifaces (omega arith) in
        let b : is_before (safe_time net p J) (Some x.0) ≡ true = below_is x.0.0.time (safe_time net p J) (omega (arith, x.2)) in
        ap (is_before (safe_time net p J)) l ∙ b
      where
        below_is : (a b : ℕ) → a < b → ltb a b ≡ true
        below_is a b h = grind (arith, nat_tests)
