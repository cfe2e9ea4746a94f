-- A partition's steps over its knowledge, beside those of the whole network.
use Rattle.std.proofs.Common.{◌≡◌, ◌≢◌, ◌⊎◌, inl, inr, ℕ, zero, suc, ◌+◌, ◌<◌, ◌≤◌, Bool, true, false, not, ◌&&◌, cond, min, ◌==◌, List, [], ◌∷◌, ◌++◌, length, Option, Some, None, refl, sym, ap, ap₂, ◌∙◌, subst, arith, true≢false, ⊎_elim, append-nil}
use Rattle.std.proofs.lemmas.Bool.{cases_lt}
use Rattle.std.specs.FinMap.{get, remove}
use Rattle.nm_base.specs.declared.key.Place.{Place}
use Rattle.nm_base.specs.declared.key.Place.TheVariants.{Arrive, Complete, Fire}
use Rattle.nm_base.specs.declared.key.Key.{Key}
use Rattle.nm_base.specs.Key.{key_of}
use Rattle.nm_base.specs.declared.record.Dir.TheVariants.{In, Out}
use Rattle.nm_model.specs.Port.{Port}
use Rattle.nm_model.specs.EventList.{least, IsUpTo, schedule}
use Rattle.nm_model.specs.Replica.{safe_among, Agrees}
use Rattle.nm_model.specs.Knowledge.{Knowledge}
use Rattle.nm_model.specs.Partition.{in_part, comes_in, is_inbox, is_own_record}
use Rattle.nm_model.specs.Lists.{nth, keep_where}
use Rattle.nm_model.specs.Network.{Net, IsNet, node_of}
use Rattle.nm_model.specs.Run.{State, Effect, effect, turned, sent_after, new_events, transmission_events, next_events, arrived_after, apply, in_record, out_record}
use Rattle.nm_base.specs.declared.event.Event.TheVariants.{Delivery, Completion}
use Rattle.nm_base.specs.declared.event.Origin.TheVariants.{Arrival}
use Rattle.nm_base.specs.Event.{event_place}
use Rattle.nm_model.proofs.Keys.{key_at, key_decides, same_key, remove_same, remove_other, least_has, least_min, up_to_earlier}
use Rattle.nm_model.proofs.ListLemmas.{same_time, bool_cases, same_number, set_there, set_both, kept-append}
use Rattle.nm_model.proofs.Scheduling.{put_alike, put_elsewhere}
use Rattle.nm_model.proofs.Effects.{EffectIs, effect_is, effect_local}
use Rattle.nm_model.proofs.NewEvents.{arrive_inj, turned_case, sent_case, IsNew, Ends, Comes, GoesOn, pending_case, pending_other}
use Rattle.nm_model.proofs.Invariants.{Invariant, arrival_number, came_case}
use Rattle.nm_model.proofs.Placed.{placed_of}
use Rattle.nm_base.specs.declared.event.Event.{Event}

pub and_both : (a b : Bool) → (a && b) ≡ true → (a ≡ true) × (b ≡ true)
and_both true b h = (refl, h)
and_both false b h = absurd (true≢false (sym h))

pub and_true : (a b : Bool) → a ≡ true → b ≡ true → (a && b) ≡ true
and_true a b h k = ap₂ (λ x y. x && y) h k

pub not_true : (b : Bool) → not b ≡ true → b ≡ false
not_true true h = absurd (true≢false (sym h))
not_true false h = refl

pub both_ways : {A : Type 0} (b : Bool) → b ≡ true → b ≡ false → A
both_ways b h k = absurd (true≢false (sym h ∙ k))

module _ {P N : Type 0} (net : Net P N) (p : ℕ) where
  pub safe_stop : (K : Knowledge P) (n : ℕ) → safe_among net p K n ≤ net.stop
  safe_stop K zero = omega arith
  safe_stop K (suc n) = go (comes_in net p n) (safe_stop K n)
    where
      go : (b : Bool) → safe_among net p K n ≤ net.stop → cond b (min (K n).clock (safe_among net p K n)) (safe_among net p K n) ≤ net.stop
      go true r = omega arith
      go false r = r

  pub safe_clock : (K : Knowledge P) (c n : ℕ) → c < n → comes_in net p c ≡ true → safe_among net p K n ≤ (K c).clock
  safe_clock K c zero h ch = absurd (omega arith)
  safe_clock K c (suc n) h ch = go (comes_in net p n) refl (same_number c n) (λ lt. safe_clock K c n lt ch)
    where
      go : (b : Bool) → comes_in net p n ≡ b → (c ≡ n) ⊎ (c ≢ n) → (c < n → safe_among net p K n ≤ (K c).clock) → cond b (min (K n).clock (safe_among net p K n)) (safe_among net p K n) ≤ (K c).clock
      go true e (inl f) r = let w : (K n).clock ≡ (K c).clock = ap (λ i. (K i).clock) (sym f) in omega arith
      go false e (inl f) r = both_ways (comes_in net p c) ch (ap (comes_in net p) f ∙ e)
      go true e (inr f) r = let w = r (omega arith) in omega arith
      go false e (inr f) r = r (omega arith)

  -- the relation that steps keep
  pub record Cut (K : Knowledge P) (g s : State P N) : Type 0 where
    pub agrees : Agrees net p g s
    pub inbox_is : (c t n : ℕ) (x : Event P) → comes_in net p c ≡ true → get s.pending (key_of t (Arrive c) n) ≡ Some x → (y : P) × (x ≡ Delivery (Arrival c) y) × (s.arrived c ≤ n) × (nth (K c).list n ≡ Some (t, y))
    pub inbox_has : (c t n : ℕ) (x : P) → comes_in net p c ≡ true → s.arrived c ≤ n → nth (K c).list n ≡ Some (t, x) → get s.pending (key_of t (Arrive c) n) ≡ Some (Delivery (Arrival c) x)
    pub alien : (q : Key) → in_part net p q.place ≡ false → get s.pending q ≡ None

  -- the messages of K were put on their channels, or are later than t
  abbrev pub Told : Knowledge P → State P N → ℕ → Type 0
  Told K g t = (c n : ℕ) (b : ℕ × P) → comes_in net p c ≡ true → nth (K c).list n ≡ Some b → (nth (g.sent c) n ≡ Some b) ⊎ (t < b.0)

  module _ (ok : IsNet net) where
    pub channel_inside : (c : ℕ) → comes_in net p c ≡ true → c < net.ifaces
    channel_inside c h = ⊎_elim
        (λ lt. lt)
        (λ le. let b = and_both _ _ h in
        let same : in_part net p (Arrive (net.far_end c)) ≡ in_part net p (Arrive c) = ap (λ i. in_part net p (Arrive i)) (ok.outside c le) in
        both_ways (in_part net p (Arrive c)) b.0 (sym same ∙ not_true _ b.1))
        (cases_lt c net.ifaces)

    -- what is pending at a partition is pending in the whole network, or will be
    module _ (K : Knowledge P) (g s : State P N) (h : Cut K g s) (now : ℕ) (good : Invariant net g now) (t : ℕ) where
      pub origin_at : (q : Key) (y : Event P) → ((c : ℕ) (z : P) → comes_in net p c ≡ true → nth (K c).list q.number ≡ Some (q.time, z) → (nth (g.sent c) q.number ≡ Some (q.time, z)) ⊎ (t < q.time)) → get s.pending q ≡ Some y → (get g.pending q ≡ Some y) ⊎ (t < q.time)
      origin_at q y told e = ⊎_elim
          (λ mn. ⊎_elim
          (λ ch. at_channel q.place refl ch)
          (λ ch. inl (h.agrees.own q mn ch ∙ e))
          (bool_cases (is_inbox net p q.place)))
          (λ mn. let none = h.alien q mn in absurd (cc))
          (bool_cases (in_part net p q.place))
        where
          at_channel : (pl : Place) → q.place ≡ pl → is_inbox net p pl ≡ true → (get g.pending q ≡ Some y) ⊎ (t < q.time)
          at_channel (Complete i) f ch = absurd (true≢false (sym ch))
          at_channel (Fire j) f ch = absurd (true≢false (sym ch))
          at_channel (Arrive c) f ch =
              let a = h.inbox_is c q.time q.number y ch (ap (get s.pending) (sym (key_at q (Arrive c) f)) ∙ e) in
              let mc = (and_both _ _ ch).0 in
              ⊎_elim
              (λ i. inl (ap (get g.pending) (key_at q (Arrive c) f) ∙ good.arrival_has c q.time q.number a.0 (let w = h.agrees.arrived c mc in let z = a.2 in omega arith) i ∙ ap Some (sym a.1)))
              (λ lt. inr lt)
              (told c a.0 ch a.3)

      pub origin : Told K g t → (q : Key) (y : Event P) → get s.pending q ≡ Some y → (get g.pending q ≡ Some y) ⊎ (t < q.time)
      origin told q y e = origin_at q y (λ c z ch f. told c q.number (q.time, z) ch f) e

    -- a partition's pending events are not before the whole network's least
    module _ (K : Knowledge P) (g s : State P N) (h : Cut K g s) (now : ℕ) (good : Invariant net g now) (k : Key) (x : Event P) (m : least g.pending ≡ Some (k, x)) where
      pub bound : Told K g k.time → (q : Key) (y : Event P) → get s.pending q ≡ Some y → IsUpTo k q
      bound told q y e = ⊎_elim
          (λ f. least_min g.pending (k, x) q y m f)
          (λ lt. up_to_earlier k q lt)
          (origin K g s h now good k.time told q y e)

      -- what comes before the safe time is known
      pub present : ((c n : ℕ) (b : ℕ × P) → comes_in net p c ≡ true → nth (g.sent c) n ≡ Some b → b.0 ≤ k.time → nth (K c).list n ≡ Some b) → in_part net p k.place ≡ true → get s.pending k ≡ Some x
      present full mn = ⊎_elim
          (λ ch. at_channel k.place refl ch)
          (λ ch. sym (h.agrees.own k mn ch) ∙ least_has g.pending (k, x) m)
          (bool_cases (is_inbox net p k.place))
        where
          at_channel : (pl : Place) → k.place ≡ pl → is_inbox net p pl ≡ true → get s.pending k ≡ Some x
          at_channel (Complete i) f ch = absurd (true≢false (sym ch))
          at_channel (Fire j) f ch = absurd (true≢false (sym ch))
          at_channel (Arrive c) f ch =
              let mc : in_part net p (Arrive c) ≡ true = (and_both _ (not (in_part net p (Arrive (net.far_end c)))) ch).0 in
              let a = good.arrival_is c k.time k.number x (ap (get g.pending) (sym (key_at k (Arrive c) f)) ∙ least_has g.pending (k, x) m) in
              let i = full c k.number (k.time, a.0) ch a.3 (omega arith) in
              ap (get s.pending) (key_at k (Arrive c) f) ∙ h.inbox_has c k.time k.number a.0 ch (let w = h.agrees.arrived c mc in let z = a.2 in omega arith) i ∙ ap Some (sym a.1)

      abbrev does : Effect P N
      does = effect net g.node g.port k.time k.number x

      placed : k.place ≡ event_place x
      placed = placed_of net (λ q. true) g good.orderly k x (least_has g.pending (k, x) m)

      does_is : EffectIs net g.port k.time k.place k.number x does
      does_is = effect_is net ok g.node g.port k.time k.place k.number x placed

      owner_mine : (i : ℕ) → net.owner i ≡ node_of net k.place → in_part net p (Arrive i) ≡ in_part net p k.place
      owner_mine i e = ap (λ v. net.part v == p) e

      turn_mine : (i : ℕ) (w : Port P) → does.turn ≡ Some (i, w) → in_part net p (Arrive i) ≡ in_part net p k.place
      turn_mine i w e = owner_mine i (does_is.turn_owner (i, w) e)

      transmission_mine : (u : ℕ × P) → does.transmission ≡ Some u → in_part net p (Arrive u.0) ≡ in_part net p k.place
      transmission_mine u e = let d = does_is.transmission_turn u e in turn_mine u.0 d.0 d.1

      came_mine : (a : ℕ × P) → does.came ≡ Some a → in_part net p (Arrive a.0) ≡ in_part net p k.place
      came_mine a e = ap (in_part net p) (sym (does_is.came_is a e).0)

      far_mine : (u : ℕ × P) → does.transmission ≡ Some u → in_part net p (Arrive (net.far_end (net.far_end u.0))) ≡ in_part net p k.place
      far_mine u e = ap (λ i. in_part net p (Arrive i)) (ok.twice u.0) ∙ transmission_mine u e

      -- an event of another partition
      pub cut_other : in_part net p k.place ≡ false → Cut K (apply net (λ q. true) k does g) s
      cut_other mn = record {
        agrees = record {
          node = λ v mv. set_there g.node (node_of net k.place) does.after v (λ eq. both_ways (net.part v == p) mv (ap (λ u. net.part u == p) eq ∙ mn)) ∙ h.agrees.node v mv;
          port = λ i mi. ⊎_elim
              (λ t. both_ways (in_part net p (Arrive i)) mi (turn_mine i t.0 t.1 ∙ mn))
              (λ t. t.1 ∙ h.agrees.port i mi)
              (turned_case g.port does.turn i);
          sent = λ c mc. ⊎_elim
              (λ u. both_ways (in_part net p (Arrive (net.far_end c))) mc (ap (λ i. in_part net p (Arrive (net.far_end i))) u.2 ∙ far_mine u.0 u.1 ∙ mn))
              (λ u. u.1 ∙ h.agrees.sent c mc)
              (sent_case net k.time g.sent does.transmission c);
          arrived = λ c mc. ⊎_elim
              (λ a. both_ways (in_part net p (Arrive c)) mc (ap (in_part net p) (sym a.0) ∙ mn))
              (λ a. a.1 ∙ h.agrees.arrived c mc)
              (came_case net ok g now good k x m g.arrived c);
          own = λ q mq cq. pending_other net k g.sent does (λ q. true) g.pending q (λ eq. both_ways (in_part net p q.place) mq (ap (λ r. in_part net p r.place) eq ∙ mn)) (λ y. not_new q mq cq y) ∙ h.agrees.own q mq cq;
          records = kept-append (is_own_record net p) g.records _ ∙ ap₂ (λ a b. a ++ b) h.agrees.records none ∙ append-nil s.records;
        };
        inbox_is = h.inbox_is;
        inbox_has = h.inbox_has;
        alien = h.alien;
      }
        where
          not_new : (q : Key) → in_part net p q.place ≡ true → is_inbox net p q.place ≡ false → (y : Event P) → ¬ (IsNew net k g.sent does q y)
          not_new q mq cq y (Ends u e f i) = both_ways (in_part net p q.place) mq (ap (λ r. in_part net p r.place) f ∙ transmission_mine u e ∙ mn)
          not_new q mq cq y (GoesOn u e f i) = both_ways (in_part net p q.place) mq (ap (λ r. in_part net p r.place) f ∙ ap (in_part net p) (sym (does_is.follows_is u e).0) ∙ mn)
          not_new q mq cq y (Comes u e f i) =
              let here : in_part net p (Arrive (net.far_end u.0)) ≡ true = ap (in_part net p) (sym (ap (λ r. r.place) f)) ∙ mq in
              let there : not (in_part net p (Arrive (net.far_end (net.far_end u.0)))) ≡ true = ap not (far_mine u e ∙ mn) in
              both_ways (is_inbox net p q.place) (ap (λ r. is_inbox net p r.place) f ∙ and_true _ _ here there) cq

          in_none : (o : Option (ℕ × P)) → ((a : ℕ × P) → o ≡ Some a → in_part net p (Arrive a.0) ≡ false) → keep_where (is_own_record net p) (in_record k.time o) ≡ []
          in_none None e = refl
          in_none (Some a) e = ap (λ b. cond b (record { time = k.time; iface = a.0; dir = In; packet = a.1 } ∷ []) []) (e a refl)

          out_none : (o : Option (ℕ × P)) → ((u : ℕ × P) → o ≡ Some u → in_part net p (Arrive u.0) ≡ false) → keep_where (is_own_record net p) (out_record k.time o) ≡ []
          out_none None e = refl
          out_none (Some u) e = ap (λ b. cond b (record { time = k.time; iface = u.0; dir = Out; packet = u.1 } ∷ []) []) (e u refl)

          none : keep_where (is_own_record net p) (in_record k.time does.came ++ out_record k.time does.transmission) ≡ []
          none = kept-append (is_own_record net p) (in_record k.time does.came) _ ∙ ap₂ (λ a b. a ++ b) (in_none does.came (λ a e. came_mine a e ∙ mn)) (out_none does.transmission (λ u e. transmission_mine u e ∙ mn))

      -- an event of this partition
      module _ (mn : in_part net p k.place ≡ true) (has : get s.pending k ≡ Some x) where
        turned_both : (o : Option (ℕ × Port P)) (i : ℕ) → g.port i ≡ s.port i → turned g.port o i ≡ turned s.port o i
        turned_both None i e = e
        turned_both (Some w) i e = set_both g.port s.port w.0 w.1 w.1 i (λ f. refl) (λ f. e)

        line : (u : ℕ × P) → does.transmission ≡ Some u → g.sent (net.far_end u.0) ≡ s.sent (net.far_end u.0)
        line u e = h.agrees.sent (net.far_end u.0) (far_mine u e ∙ mn)

        sent_both : (o : Option (ℕ × P)) → ((u : ℕ × P) → o ≡ Some u → g.sent (net.far_end u.0) ≡ s.sent (net.far_end u.0)) → (c : ℕ) → g.sent c ≡ s.sent c → sent_after net k.time g.sent o c ≡ sent_after net k.time s.sent o c
        sent_both None l c e = e
        sent_both (Some u) l c e = set_both g.sent s.sent (net.far_end u.0) _ _ c (λ f. ap (λ z. z ++ (k.time + net.tx u.0 u.1 + net.delay u.0, u.1) ∷ []) (l u refl)) (λ f. e)

        transmission_both : (o : Option (ℕ × P)) → ((u : ℕ × P) → o ≡ Some u → g.sent (net.far_end u.0) ≡ s.sent (net.far_end u.0)) → transmission_events net k.time g.sent o ≡ transmission_events net k.time s.sent o
        transmission_both None l = refl
        transmission_both (Some u) l = ap (λ (z : List (ℕ × P)). (key_of (k.time + net.tx u.0 u.1) (Complete u.0) (length z), Completion u.0) ∷ (key_of (k.time + net.tx u.0 u.1 + net.delay u.0) (Arrive (net.far_end u.0)) (length z), Delivery (Arrival (net.far_end u.0)) u.1) ∷ []) (l u refl)

        news_both : new_events net k g.sent does ≡ new_events net k s.sent does
        news_both = ap (λ z. z ++ next_events k.number does.follows) (transmission_both does.transmission line)

        arrived_both : (o : Option (ℕ × P)) → ((a : ℕ × P) → o ≡ Some a → in_part net p (Arrive a.0) ≡ true) → (c : ℕ) → g.arrived c ≡ s.arrived c → arrived_after g.arrived o c ≡ arrived_after s.arrived o c
        arrived_both None e c f = f
        arrived_both (Some a) e c f = set_both g.arrived s.arrived a.0 _ _ c (λ z. ap suc (h.agrees.arrived a.0 (e a refl))) (λ z. f)

        removed_both : (q : Key) → get g.pending q ≡ get s.pending q → get (remove g.pending k) q ≡ get (remove s.pending k) q
        removed_both q e = ⊎_elim
            (λ f. subst (λ z. get (remove g.pending k) z ≡ get (remove s.pending k) z) (sym f) (remove_same g.pending k ∙ sym (remove_same s.pending k)))
            (λ f. remove_other g.pending k q f ∙ e ∙ sym (remove_other s.pending k q f))
            (key_decides q k)

        in_all : (o : Option (ℕ × P)) → ((a : ℕ × P) → o ≡ Some a → in_part net p (Arrive a.0) ≡ true) → keep_where (is_own_record net p) (in_record k.time o) ≡ in_record k.time o
        in_all None e = refl
        in_all (Some a) e = ap (λ b. cond b (record { time = k.time; iface = a.0; dir = In; packet = a.1 } ∷ []) []) (e a refl)

        out_all : (o : Option (ℕ × P)) → ((u : ℕ × P) → o ≡ Some u → in_part net p (Arrive u.0) ≡ true) → keep_where (is_own_record net p) (out_record k.time o) ≡ out_record k.time o
        out_all None e = refl
        out_all (Some u) e = ap (λ b. cond b (record { time = k.time; iface = u.0; dir = Out; packet = u.1 } ∷ []) []) (e u refl)

        -- no event that it makes comes in by a channel
        not_new : (c t n : ℕ) (y : Event P) → comes_in net p c ≡ true → ¬ (IsNew net k s.sent does (key_of t (Arrive c) n) y)
        not_new c t n y ch (Ends u e f i) = let w = ap (λ r. r.place) f in cc
        not_new c t n y ch (GoesOn u e f i) = let w = ap (λ r. r.place) f in cc
        not_new c t n y ch (Comes u e f i) =
            let pc : c ≡ net.far_end u.0 = arrive_inj _ _ (ap (λ r. r.place) f) in
            let there = not_true _ (and_both _ _ ch).1 in
            both_ways (in_part net p (Arrive (net.far_end c))) (ap (λ j. in_part net p (Arrive (net.far_end j))) pc ∙ far_mine u e ∙ mn) there

        number_here : (c : ℕ) → comes_in net p c ≡ true → k.place ≡ Arrive c → (y : P) × (k.number ≡ s.arrived c) × (nth (K c).list k.number ≡ Some (k.time, y))
        number_here c ch pl =
            let a = arrival_number net ok g now good k x m c pl in
            let b = h.inbox_is c k.time k.number x ch (ap (get s.pending) (sym (key_at k (Arrive c) pl)) ∙ has) in
            (b.0, a.2 ∙ h.agrees.arrived c (and_both _ _ ch).0, b.3)

        cut_same : Cut K (apply net (λ q. true) k does g) (apply net (in_part net p) k does s)
        cut_same = record {
          agrees = record {
            node = λ v mv. set_both g.node s.node (node_of net k.place) does.after does.after v (λ e. refl) (λ e. h.agrees.node v mv);
            port = λ i mi. turned_both does.turn i (h.agrees.port i mi);
            sent = λ c mc. sent_both does.transmission line c (h.agrees.sent c mc);
            arrived = λ c mc. arrived_both does.came (λ a e. came_mine a e ∙ mn) c (h.agrees.arrived c mc);
            own = λ q mq cq. put_alike (λ q. true) (in_part net p) (new_events net k g.sent does) (remove g.pending k) (remove s.pending k) q (sym mq) (removed_both q (h.agrees.own q mq cq)) ∙ ap (λ l. get (schedule (in_part net p) l (remove s.pending k)) q) news_both;
            records = kept-append (is_own_record net p) g.records _ ∙ ap₂ (λ a b. a ++ b) h.agrees.records (kept-append (is_own_record net p) (in_record k.time does.came) _ ∙ ap₂ (λ a b. a ++ b) (in_all does.came (λ a e. came_mine a e ∙ mn)) (out_all does.transmission (λ u e. transmission_mine u e ∙ mn)));
          };
          inbox_is = λ c t n y ch e. ⊎_elim
              (λ z. absurd (not_new c t n y ch z))
              (λ z. let a = h.inbox_is c t n y ch z.1 in (
                a.0,
                a.1,
                ⊎_elim
                    (λ b. let num = number_here c ch b.0 in
                    ⊎_elim
                    (λ eq. absurd (z.0 (same_key _ _ (let w = same_time t k.time a.0 num.0 _ a.3 (ap (nth (K c).list) eq ∙ num.2) in w.0) (sym b.0) eq)))
                    (λ d. omega (arith, b.1, num.1, a.2, d))
                    (same_number n k.number))
                    (λ b. omega (arith, b.1, a.2))
                    (came_case net ok g now good k x m s.arrived c),
                a.3,
              ))
              (pending_case net k s.sent does (in_part net p) s.pending (key_of t (Arrive c) n) y e);
          inbox_has = λ c t n y ch le e.
              pending_other net k s.sent does (in_part net p) s.pending (key_of t (Arrive c) n)
              (λ eq. let pl : k.place ≡ Arrive c = sym (ap (λ r. r.place) eq) in
              let num = number_here c ch pl in
              let nn : n ≡ k.number = ap (λ r. r.number) eq in
              ⊎_elim (λ b. absurd (omega (arith, b.1, le, num.1, nn))) (λ b. b.0 pl) (came_case net ok g now good k x m s.arrived c))
              (λ z. not_new c t n z ch)
              ∙ h.inbox_has c t n y ch (⊎_elim (λ b. omega (arith, b.1, le)) (λ b. omega (arith, b.1, le)) (came_case net ok g now good k x m s.arrived c)) e;
          alien = λ q mq. put_elsewhere (in_part net p) (new_events net k s.sent does) (remove s.pending k) q mq ∙ remove_other s.pending k q (λ eq. both_ways (in_part net p q.place) (ap (λ r. in_part net p r.place) eq ∙ mn) mq) ∙ h.alien q mq;
        }

        pub cut_mine : Cut K (apply net (λ q. true) k does g) (apply net (in_part net p) k (effect net s.node s.port k.time k.number x) s)
        cut_mine = subst (λ e. Cut K (apply net (λ q. true) k does g) (apply net (in_part net p) k e s))
            (effect_local net g.port s.port k.time ok g.node s.node k.place k.number x placed (h.agrees.node (node_of net k.place) mn) (λ i e. h.agrees.port i (owner_mine i e ∙ mn)))
            cut_same
