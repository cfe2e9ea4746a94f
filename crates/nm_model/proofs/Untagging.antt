-- Runs over packets with tags are those without.
use Rattle.std.proofs.Common.{◌≡◌, ◌≢◌, ◌⊎◌, inl, inr, ℕ, zero, suc, ◌+◌, Bool, true, false, cond, List, [], ◌∷◌, ◌++◌, map, length, Option, Some, None, refl, sym, ap, ap₂, ◌∙◌, subst, ⊎_elim, ◌==◌}
use Rattle.std.proofs.lemmas.List.{map-append}
use Rattle.std.specs.Option.{option_map}
use Rattle.std.specs.FinMap.{FinMap, get, insert, remove, empty}
use Rattle.nm_base.specs.declared.key.Place.{Place}
use Rattle.nm_base.specs.declared.key.Place.TheVariants.{Arrive, Complete, Fire}
use Rattle.nm_base.specs.declared.key.Key.{Key}
use Rattle.nm_base.specs.Key.{key_cmp}
use Rattle.nm_base.specs.declared.event.Event.{Event}
use Rattle.nm_base.specs.declared.event.Event.TheVariants.{Delivery, Completion}
use Rattle.nm_base.specs.declared.event.Origin.{Origin}
use Rattle.nm_base.specs.declared.event.Origin.TheVariants.{Arrival, Source}
use Rattle.nm_model.specs.EventList.{least, schedule}
use Rattle.nm_model.specs.Lists.{set_at}
use Rattle.nm_model.specs.Network.{Net, IsNet, node_of}
use Rattle.nm_model.specs.Port.{Port, Busy, transmitting, offered, next_transmitting, completed}
use Rattle.nm_model.specs.Run.{State, Effect, at_iface, by_source, sent_on, turned_by, effect, turned, transmission_events, next_events, new_events, sent_after, arrived_after, in_record, out_record, apply, step, step_at, run, start, first_event, source_events, one_list}
use Rattle.nm_model.specs.Tags.{Tagging, with_tag, tagged, untagged_event, untagged_busy, untagged_port, untagged_record, IsUntagged}
use Rattle.nm_model.proofs.Keys.{get_empty, insert_same, insert_other, remove_same, remove_other, key_decides, least_none, least_has, least_min, least_is}
use Rattle.nm_model.proofs.ListLemmas.{option_cases, some_inj, not_some}

length_map : {A B : Type 0} (f : A → B) (xs : List A) → length (map f xs) ≡ length xs
length_map f [] = refl
length_map f (x ∷ xs) = ap suc (length_map f xs)

cond_ap : {A B : Type 0} (f : A → B) (b : Bool) (x y : A) → cond b (f x) (f y) ≡ f (cond b x y)
cond_ap f true x y = refl
cond_ap f false x y = refl

some_of_map : {A B : Type 0} (f : A → B) (o : Option A) (y : B) → option_map f o ≡ Some y → (x : A) × (o ≡ Some x)
some_of_map f None y e = absurd (not_some y e)
some_of_map f (Some x) y e = (x, refl)

module _ {P T : Type 0} where
  abbrev IsSame : FinMap key_cmp (Event (T × P)) → FinMap key_cmp (Event P) → Type 0
  IsSame m n = (q : Key) → get n q ≡ option_map untagged_event (get m q)

  abbrev untag_entry : Key × Event (T × P) → Key × Event P
  untag_entry e = (e.0, untagged_event e.1)

  abbrev untag_at : ℕ × (T × P) → ℕ × P
  untag_at x = (x.0, x.1.1)

  abbrev untag_follows : ℕ × ℕ × (T × P) → ℕ × ℕ × P
  untag_follows x = (x.0, x.1, x.2.1)

  least_same : (m : FinMap key_cmp (Event (T × P))) (n : FinMap key_cmp (Event P)) → IsSame m n → least n ≡ option_map untag_entry (least m)
  least_same m n h = go (least m) refl
    where
      go : (o : Option (Key × Event (T × P))) → least m ≡ o → least n ≡ option_map untag_entry o
      go None e = ⊎_elim
          (λ x. x)
          (λ s. absurd (not_some s.0.1 (sym (h s.0.0 ∙ ap (option_map untagged_event) (least_none m s.0.0 e)) ∙ least_has n s.0 s.1)))
          (option_cases (least n))
      go (Some x) e = least_is n x.0 (untagged_event x.1)
          (h x.0 ∙ ap (option_map untagged_event) (least_has m x e))
          (λ q w g. let some = some_of_map untagged_event (get m q) w (sym (h q) ∙ g) in least_min m x q some.0 e some.1)

  -- the next event over packets with tags
  pub tagged_first : (m : FinMap key_cmp (Event (T × P))) (n : FinMap key_cmp (Event P)) → IsSame m n → (e : Key × Event P) → least n ≡ Some e
      → (f : Event (T × P)) × (least m ≡ Some (e.0, f)) × (e.1 ≡ untagged_event f)
  tagged_first m n h e first =
      let found = some_of_map untag_entry (least m) e (sym (least_same m n h) ∙ first) in
      let same = some_inj e (untag_entry found.0) (sym first ∙ least_same m n h ∙ ap (option_map untag_entry) found.1) in
      (found.0.1, found.1 ∙ ap (λ k. Some (k, found.0.1)) (sym (ap (λ z. z.0) same)), ap (λ z. z.1) same)

  insert_kept : (m : FinMap key_cmp (Event (T × P))) (n : FinMap key_cmp (Event P)) (k : Key) (v : Event (T × P)) → IsSame m n → IsSame (insert m k v) (insert n k (untagged_event v))
  insert_kept m n k v h q = ⊎_elim
      (λ f. subst (λ z. get (insert n k (untagged_event v)) z ≡ option_map untagged_event (get (insert m k v) z)) (sym f) (insert_same n k (untagged_event v) ∙ sym (ap (option_map untagged_event) (insert_same m k v))))
      (λ f. insert_other n k (untagged_event v) q f ∙ h q ∙ sym (ap (option_map untagged_event) (insert_other m k v q f)))
      (key_decides q k)

  remove_kept : (m : FinMap key_cmp (Event (T × P))) (n : FinMap key_cmp (Event P)) (k : Key) → IsSame m n → IsSame (remove m k) (remove n k)
  remove_kept m n k h q = ⊎_elim
      (λ f. subst (λ z. get (remove n k) z ≡ option_map untagged_event (get (remove m k) z)) (sym f) (remove_same n k ∙ sym (ap (option_map untagged_event) (remove_same m k))))
      (λ f. remove_other n k q f ∙ h q ∙ sym (ap (option_map untagged_event) (remove_other m k q f)))
      (key_decides q k)

  schedule_kept : (here : Place → Bool) (es : List (Key × Event (T × P))) (m : FinMap key_cmp (Event (T × P))) (n : FinMap key_cmp (Event P)) → IsSame m n → IsSame (schedule here es m) (schedule here (map untag_entry es) n)
  schedule_kept here [] m n h = h
  schedule_kept here (e ∷ es) m n h = go (schedule_kept here es m n h) (here e.0.place)
    where
      go : IsSame (schedule here es m) (schedule here (map untag_entry es) n) → (b : Bool) → IsSame (cond b (insert (schedule here es m) e.0 e.1) (schedule here es m)) (cond b (insert (schedule here (map untag_entry es) n) e.0 (untagged_event e.1)) (schedule here (map untag_entry es) n))
      go rest true = insert_kept (schedule here es m) (schedule here (map untag_entry es) n) e.0 e.1 rest
      go rest false = rest

  -- ports
  abbrev untag_turn : Port (T × P) × Option (T × P) → Port P × Option P
  untag_turn r = (untagged_port r.0, option_map (λ x. x.1) r.1)

  offered_kept : (room : List P → P → Bool) (tx : P → ℕ) (now : ℕ) (x : T × P) (dropped : ℕ) (busy : Option (Busy (T × P))) → offered room tx now x.1 dropped (option_map untagged_busy busy) ≡ untag_turn (offered (λ w y. room (map (λ z. z.1) w) y.1) (λ y. tx y.1) now x dropped busy)
  offered_kept room tx now x dropped None = refl
  offered_kept room tx now x dropped (Some b) = go (room (map (λ z. z.1) b.waiting) x.1)
    where
      waits : List P → Port P × Option P
      waits w = (record { busy = Some (record { completes = b.completes; waiting = w }); dropped = dropped }, None)

      go : (c : Bool) → cond c (waits (map (λ z. z.1) b.waiting ++ x.1 ∷ [])) (record { busy = Some (untagged_busy b); dropped = dropped + 1 }, None) ≡ untag_turn (cond c (record { busy = Some (record { completes = b.completes; waiting = b.waiting ++ x ∷ [] }); dropped = dropped }, None) (record { busy = Some b; dropped = dropped + 1 }, None))
      go true = ap waits (sym (map-append (λ z. z.1) b.waiting (x ∷ [])))
      go false = refl

  next_kept : (tx : P → ℕ) (now dropped : ℕ) (w : List (T × P)) → next_transmitting tx now dropped (map (λ z. z.1) w) ≡ untag_turn (next_transmitting (λ y. tx y.1) now dropped w)
  next_kept tx now dropped [] = refl
  next_kept tx now dropped (x ∷ w) = refl

  completed_kept : (tx : P → ℕ) (now dropped : ℕ) (busy : Option (Busy (T × P))) → completed tx now dropped (option_map untagged_busy busy) ≡ untag_turn (completed (λ y. tx y.1) now dropped busy)
  completed_kept tx now dropped None = refl
  completed_kept tx now dropped (Some b) = next_kept tx now dropped b.waiting

  at_kept : (i : ℕ) (o : Option (T × P)) → at_iface i (option_map (λ x. x.1) o) ≡ option_map untag_at (at_iface i o)
  at_kept i None = refl
  at_kept i (Some x) = refl

  follows_kept : (j : ℕ) (tag : T) (o : Option (ℕ × P)) → by_source j o ≡ option_map untag_follows (by_source j (with_tag tag o))
  follows_kept j tag None = refl
  follows_kept j tag (Some f) = refl

  first_kept : (j : ℕ) (tag : T) (o : Option (ℕ × P)) → first_event j o ≡ map untag_entry (first_event j (with_tag tag o))
  first_kept j tag None = refl
  first_kept j tag (Some f) = refl

  next_events_kept : (number : ℕ) (o : Option (ℕ × ℕ × (T × P))) → next_events number (option_map untag_follows o) ≡ map untag_entry (next_events number o)
  next_events_kept number None = refl
  next_events_kept number (Some f) = refl

  arrived_kept : (f : ℕ → ℕ) (o : Option (ℕ × (T × P))) → arrived_after f (option_map untag_at o) ≡ arrived_after f o
  arrived_kept f None = refl
  arrived_kept f (Some a) = refl

  in_kept : (time : ℕ) (o : Option (ℕ × (T × P))) → in_record time (option_map untag_at o) ≡ map untagged_record (in_record time o)
  in_kept time None = refl
  in_kept time (Some a) = refl

  out_kept : (time : ℕ) (o : Option (ℕ × (T × P))) → out_record time (option_map untag_at o) ≡ map untagged_record (out_record time o)
  out_kept time None = refl
  out_kept time (Some a) = refl

  turned_kept : (ports : ℕ → Port (T × P)) (o : Option (ℕ × Port (T × P))) → turned (λ i. untagged_port (ports i)) (option_map (λ t. (t.0, untagged_port t.1)) o) ≡ (λ i. untagged_port (turned ports o i))
  unfolding set_at
  turned_kept ports None = refl
  turned_kept ports (Some w) = λ k i. cond_ap untagged_port (i == w.0) w.1 (ports i) k

  module _ {N : Type 0} where
    abbrev untag_effect : Effect (T × P) N → Effect P N
    untag_effect e = record {
      after = e.after;
      came = option_map untag_at e.came;
      turn = option_map (λ t. (t.0, untagged_port t.1)) e.turn;
      transmission = option_map untag_at e.transmission;
      follows = option_map untag_follows e.follows;
    }

    module _ (net : Net P N) (tags : Tagging P N T) where
      turn_kept : (came : Option (ℕ × (T × P))) (n : N) (i : ℕ) (r : Port (T × P) × Option (T × P)) (follows : Option (ℕ × ℕ × (T × P))) → turned_by net (option_map untag_at came) n i (untag_turn r) (option_map untag_follows follows) ≡ untag_effect (turned_by (tagged net tags) came n i r follows)
      turn_kept came n i r follows = λ k. record {
        after = n;
        came = option_map untag_at came;
        turn = Some (i, untagged_port r.0);
        transmission = at_kept i r.1 k;
        follows = option_map untag_follows follows;
      }

      sent_kept : (ports : ℕ → Port (T × P)) (time : ℕ) (came : Option (ℕ × (T × P))) (tag : T) (n : N) (o : Option (ℕ × P)) (follows : Option (ℕ × ℕ × (T × P))) → sent_on net (λ i. untagged_port (ports i)) time (option_map untag_at came) n o (option_map untag_follows follows) ≡ untag_effect (sent_on (tagged net tags) ports time came n (with_tag tag o) follows)
      sent_kept ports time came tag n None follows = refl
      sent_kept ports time came tag n (Some s) follows =
          ap (λ r. turned_by net (option_map untag_at came) n s.0 r (option_map untag_follows follows)) (offered_kept (net.room s.0) (net.tx s.0) time (tag, s.1) (ports s.0).dropped (ports s.0).busy)
          ∙ turn_kept came n s.0 (offered ((tagged net tags).room s.0) ((tagged net tags).tx s.0) time (tag, s.1) (ports s.0).dropped (ports s.0).busy) follows

      effect_kept : (nodes : ℕ → N) (ports : ℕ → Port (T × P)) (time number : ℕ) (e : Event (T × P)) → effect net nodes (λ i. untagged_port (ports i)) time number (untagged_event e) ≡ untag_effect (effect (tagged net tags) nodes ports time number e)
      effect_kept nodes ports time number (Delivery (Arrival i) x) =
          let r = net.react (net.owner i) (nodes (net.owner i)) (Arrival i) x.1 in
          sent_kept ports time (Some (i, x)) (tags.sent (net.owner i) (nodes (net.owner i)) (Arrival i) x) r.0 r.1 None
      effect_kept nodes ports time number (Delivery (Source j) x) =
          let r = net.react (net.source_node j) (nodes (net.source_node j)) (Source j) x.1 in
          let g = tags.made j (suc number) in
          let f = with_tag g (net.source j (suc number)) in
          ap (λ z. sent_on net (λ i. untagged_port (ports i)) time None r.0 r.1 z) (follows_kept j g (net.source j (suc number)))
          ∙ sent_kept ports time None (tags.sent (net.source_node j) (nodes (net.source_node j)) (Source j) x) r.0 r.1 (by_source j f)
      effect_kept nodes ports time number (Completion i) =
          ap (λ r. turned_by net None (nodes (net.owner i)) i r None) (completed_kept (net.tx i) time (ports i).dropped (ports i).busy)
          ∙ turn_kept None (nodes (net.owner i)) i (completed ((tagged net tags).tx i) time (ports i).dropped (ports i).busy) None

      node_kept : (p : Place) → node_of net p ≡ node_of (tagged net tags) p
      node_kept (Arrive i) = refl
      node_kept (Complete i) = refl
      node_kept (Fire j) = refl

      abbrev untag_sent : (ℕ → List (ℕ × (T × P))) → ℕ → List (ℕ × P)
      untag_sent sent c = map untag_at (sent c)

      sent_after_kept : (time : ℕ) (sent : ℕ → List (ℕ × (T × P))) (o : Option (ℕ × (T × P))) → sent_after net time (untag_sent sent) (option_map untag_at o) ≡ untag_sent (sent_after (tagged net tags) time sent o)
      unfolding set_at
      sent_after_kept time sent None = refl
      sent_after_kept time sent (Some s) =
          let message : ℕ × (T × P) = (time + net.tx s.0 s.1.1 + net.delay s.0, s.1) in
          let longer : map untag_at (sent (net.far_end s.0)) ++ untag_at message ∷ [] ≡ map untag_at (sent (net.far_end s.0) ++ message ∷ []) = sym (map-append untag_at (sent (net.far_end s.0)) (message ∷ [])) in
          λ k c. (ap (λ z. cond (c == net.far_end s.0) z (map untag_at (sent c))) longer ∙ cond_ap (map untag_at) (c == net.far_end s.0) (sent (net.far_end s.0) ++ message ∷ []) (sent c)) k

      transmission_kept : (time : ℕ) (sent : ℕ → List (ℕ × (T × P))) (o : Option (ℕ × (T × P))) → transmission_events net time (untag_sent sent) (option_map untag_at o) ≡ map untag_entry (transmission_events (tagged net tags) time sent o)
      transmission_kept time sent None = refl
      transmission_kept time sent (Some s) = ap at (length_map untag_at (sent (net.far_end s.0)))
        where
          at : ℕ → List (Key × Event P)
          at n =
              (record { time = time + net.tx s.0 s.1.1; place = Complete s.0; number = n }, Completion s.0)
              ∷ (record { time = time + net.tx s.0 s.1.1 + net.delay s.0; place = Arrive (net.far_end s.0); number = n }, Delivery (Arrival (net.far_end s.0)) s.1.1)
              ∷ []

      new_kept : (k : Key) (sent : ℕ → List (ℕ × (T × P))) (e : Effect (T × P) N) → new_events net k (untag_sent sent) (untag_effect e) ≡ map untag_entry (new_events (tagged net tags) k sent e)
      new_kept k sent e =
          ap₂ (λ a b. a ++ b) (transmission_kept k.time sent e.transmission) (next_events_kept k.number e.follows)
          ∙ sym (map-append untag_entry (transmission_events (tagged net tags) k.time sent e.transmission) (next_events k.number e.follows))

      records_kept : (time : ℕ) (e : Effect (T × P) N) → in_record time (option_map untag_at e.came) ++ out_record time (option_map untag_at e.transmission) ≡ map untagged_record (in_record time e.came ++ out_record time e.transmission)
      records_kept time e =
          ap₂ (λ a b. a ++ b) (in_kept time e.came) (out_kept time e.transmission)
          ∙ sym (map-append untagged_record (in_record time e.came) (out_record time e.transmission))

      apply_kept : (here : Place → Bool) (k : Key) (e : Effect (T × P) N) (s : State (T × P) N) (u : State P N) → IsUntagged s u → IsUntagged (apply (tagged net tags) here k e s) (apply net here k (untag_effect e) u)
      apply_kept here k e s u h = record {
        nodes = ap₂ (λ f v. set_at f v e.after) h.nodes (node_kept k.place);
        ports = ap (λ f. turned f (option_map (λ t. (t.0, untagged_port t.1)) e.turn)) h.ports ∙ turned_kept s.port e.turn;
        pending =
            let new = ap (λ f. new_events net k f (untag_effect e)) h.sent ∙ new_kept k s.sent e in
            subst (λ es. IsSame (schedule here (new_events (tagged net tags) k s.sent e) (remove s.pending k)) (schedule here es (remove u.pending k))) (sym new)
            (schedule_kept here (new_events (tagged net tags) k s.sent e) (remove s.pending k) (remove u.pending k) (remove_kept s.pending u.pending k h.pending));
        sent = ap (λ f. sent_after net k.time f (option_map untag_at e.transmission)) h.sent ∙ sent_after_kept k.time s.sent e.transmission;
        arrived = arrived_kept u.arrived e.came ∙ ap (λ f. arrived_after f e.came) h.arrived;
        records =
            ap₂ (λ a b. a ++ b) h.records (records_kept k.time e)
            ∙ sym (map-append untagged_record s.records (in_record k.time e.came ++ out_record k.time e.transmission));
      }

      step_at_kept : (here : Place → Bool) (s : State (T × P) N) (u : State P N) → IsUntagged s u → (o : Option (Key × Event (T × P))) → IsUntagged (step_at (tagged net tags) here s o) (step_at net here u (option_map untag_entry o))
      step_at_kept here s u h None = h
      step_at_kept here s u h (Some e) =
          let same : effect net u.node u.port e.0.time e.0.number (untagged_event e.1) ≡ untag_effect (effect (tagged net tags) s.node s.port e.0.time e.0.number e.1) =
          ap₂ (λ f g. effect net f g e.0.time e.0.number (untagged_event e.1)) h.nodes h.ports ∙ effect_kept s.node s.port e.0.time e.0.number e.1 in
          subst (λ z. IsUntagged (step_at (tagged net tags) here s (Some e)) (apply net here e.0 z u)) (sym same)
          (apply_kept here e.0 (effect (tagged net tags) s.node s.port e.0.time e.0.number e.1) s u h)

      step_kept : (here : Place → Bool) (s : State (T × P) N) (u : State P N) → IsUntagged s u → IsUntagged (step (tagged net tags) here s) (step net here u)
      step_kept here s u h =
          subst (λ o. IsUntagged (step (tagged net tags) here s) (step_at net here u o)) (sym (least_same s.pending u.pending h.pending))
          (step_at_kept here s u h (least s.pending))

      sources_kept : (j : ℕ) → source_events net j ≡ map untag_entry (source_events (tagged net tags) j)
      sources_kept zero = refl
      sources_kept (suc j) =
          ap₂ (λ a b. a ++ b) (first_kept j (tags.made j 0) (net.source j 0)) (sources_kept j)
          ∙ sym (map-append untag_entry (first_event j (with_tag (tags.made j 0) (net.source j 0))) (source_events (tagged net tags) j))

      start_kept : (here : Place → Bool) → IsUntagged (start (tagged net tags) here []) (start net here [])
      start_kept here = record {
        nodes = refl;
        ports = refl;
        pending = subst (λ es. IsSame (schedule here (source_events (tagged net tags) net.sources) empty) (schedule here es empty)) (sym (sources_kept net.sources))
            (schedule_kept here (source_events (tagged net tags) net.sources) empty empty (λ q. get_empty q ∙ sym (ap (option_map untagged_event) (get_empty q))));
        sent = refl;
        arrived = refl;
        records = refl;
      }

      run_kept : (here : Place → Bool) (n : ℕ) (s : State (T × P) N) (u : State P N) → IsUntagged s u → IsUntagged (run (tagged net tags) here n s) (run net here n u)
      run_kept here zero s u h = h
      run_kept here (suc n) s u h = step_kept here (run (tagged net tags) here n s) (run net here n u) (run_kept here n s u h)

      pub list_same : (n : ℕ) → IsUntagged (one_list (tagged net tags) n) (one_list net n)
      list_same n = run_kept (λ q. true) n (start (tagged net tags) (λ q. true) []) (start net (λ q. true) []) (start_kept (λ q. true))

      -- what was sent with a tag was sent without it
      sent_without : (tag : T) (o : Option (ℕ × P)) (s : ℕ × (T × P)) → with_tag tag o ≡ Some s → o ≡ Some (untag_at s)
      sent_without tag None s e = absurd (not_some s e)
      sent_without tag (Some r) s e = ap (λ x. Some (untag_at x)) (some_inj (r.0, (tag, r.1)) s e)

      pub tagged_net : IsNet net → IsNet (tagged net tags)
      tagged_net ok = record {
        own = λ v n o x s e. ok.own v n o x.1 (untag_at s) (sent_without (tags.sent v n o x) (net.react v n o x.1).1 s e);
        twice = ok.twice;
        outside = ok.outside;
        takes_time = λ i x. ok.takes_time i x.1;
        takes_least = λ i x. ok.takes_least i x.1;
        rises = λ j n a b e f. ok.rises j n (untag_at a) (untag_at b) (sent_without (tags.made j n) (net.source j n) a e) (sent_without (tags.made j (suc n)) (net.source j (suc n)) b f);
      }
