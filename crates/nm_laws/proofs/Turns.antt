-- The packets of an interface start in the order in which they were offered.
use Rattle.std.proofs.Common.{◌≡◌, ◌⊎◌, inl, inr, ℕ, zero, suc, ◌+◌, Bool, true, false, cond, ◌==◌, List, [], ◌∷◌, ◌++◌, Option, Some, None, refl, sym, ap, ◌∙◌, subst, ⊎_elim, append_assoc}
use Rattle.nm_base.specs.declared.key.Place.{Place}
use Rattle.nm_base.specs.declared.key.Key.{Key}
use Rattle.nm_base.specs.declared.event.Event.{Event}
use Rattle.nm_base.specs.declared.event.Event.TheVariants.{Delivery, Completion}
use Rattle.nm_base.specs.declared.event.Origin.TheVariants.{Arrival, Source}
use Rattle.nm_base.specs.declared.record.Dir.TheVariants.{Out}
use Rattle.nm_model.specs.EventList.{least}
use Rattle.nm_model.specs.Lists.{set_at}
use Rattle.nm_model.specs.Network.{Net}
use Rattle.nm_model.specs.Port.{Busy, Port, offered, completed, next_transmitting, waiting_of, option_list}
use Rattle.nm_model.specs.Run.{State, Effect, effect, at_iface, by_source, turned, turned_by, sent_on, in_record, out_record, step_at, one_list}
use Rattle.nm_model.specs.Trace.{passed}
use Rattle.nm_model.proofs.ListLemmas.{same_number, number_apart, number_tied, set_here, set_there, kept-append}
use Rattle.nm_laws.specs.Offered.{IsSubsequence, answer_to, next_offer, offers, offered_to, packets_in}
use Rattle.nm_model.proofs.Traces.{passed-append}
use Rattle.nm_laws.proofs.Ports.{in_none}

module _ {A : Type 0} where
  -- more may follow
  sub_more : (xs ys zs : List A) → IsSubsequence xs ys → IsSubsequence xs (ys ++ zs)
  sub_more [] ys zs h = tt
  sub_more (x ∷ xs) [] zs h = absurd h
  sub_more (x ∷ xs) (y ∷ ys) zs (inl h) = inl (h.0, sub_more xs ys zs h.1)
  sub_more (x ∷ xs) (y ∷ ys) zs (inr h) = inr (sub_more (x ∷ xs) ys zs h)

  sub_all : (zs : List A) → IsSubsequence zs zs
  sub_all [] = tt
  sub_all (z ∷ zs) = inl (refl, sub_all zs)

  -- the same may follow both
  sub_both : (xs ys zs : List A) → IsSubsequence xs ys → IsSubsequence (xs ++ zs) (ys ++ zs)
  sub_both [] [] zs h = sub_all zs
  sub_both [] (y ∷ ys) [] h = tt
  sub_both [] (y ∷ ys) (z ∷ zs) h = inr (sub_both [] ys (z ∷ zs) tt)
  sub_both (x ∷ xs) [] zs h = absurd h
  sub_both (x ∷ xs) (y ∷ ys) zs (inl h) = inl (h.0, sub_both xs ys zs h.1)
  sub_both (x ∷ xs) (y ∷ ys) zs (inr h) = inr (sub_both (x ∷ xs) ys zs h)

  -- these follow, or none
  abbrev Follow : List A → List A → List A → Type 0
  Follow new old more = (new ≡ old ++ more) ⊎ (new ≡ old)

  sub_follow : (new old more ys : List A) → Follow new old more → IsSubsequence old ys → IsSubsequence new (ys ++ more)
  sub_follow new old more ys (inl e) h = subst (λ l. IsSubsequence l (ys ++ more)) (sym e) (sub_both old ys more h)
  sub_follow new old more ys (inr e) h = subst (λ l. IsSubsequence l (ys ++ more)) (sym e) (sub_more old ys more h)

packets-append : {P : Type 0} (k l : List (ℕ × P)) → packets_in (k ++ l) ≡ packets_in k ++ packets_in l
packets-append [] l = refl
packets-append (a ∷ k) l = ap (λ z. a.1 ∷ z) (packets-append k l)

module _ {P : Type 0} where
  -- the packet that starts at interface i
  abbrev starting : ℕ → Option (ℕ × P) → List P
  starting i None = []
  starting i (Some s) = cond (i == s.0) (s.1 ∷ []) []

  out_is : (time i : ℕ) (o : Option (ℕ × P)) → packets_in (passed Out i (out_record time o)) ≡ starting i o
  out_is time i None = refl
  out_is time i (Some s) = go (i == s.0)
    where
      go : (z : Bool) → packets_in (cond {A = List (ℕ × P)} z ((time, s.1) ∷ []) []) ≡ cond z (s.1 ∷ []) []
      go true = refl
      go false = refl

  at_iface_is : (i j : ℕ) (o : Option P) → starting i (at_iface j o) ≡ cond (i == j) (option_list o) []
  at_iface_is i j None = go (i == j)
    where
      go : (z : Bool) → ◌≡◌ {A = List P} [] (cond z [] [])
      go true = refl
      go false = refl
  at_iface_is i j (Some x) = refl

  module _ (room : List P → P → Bool) (tx : P → ℕ) (now : ℕ) where
    offered_turn : (x : P) (d : ℕ) (q : Option (Busy P)) → Follow (option_list (offered room tx now x d q).1 ++ waiting_of (offered room tx now x d q).0.busy) (waiting_of q) (x ∷ [])
    offered_turn x d None = inl refl
    offered_turn x d (Some b) = go (room b.waiting x)
      where
        go : (z : Bool) → Follow (option_list (cond {A = Port P × Option P} z (record { busy = Some (record { completes = b.completes; waiting = b.waiting ++ x ∷ [] }); dropped = d }, None) (record { busy = Some b; dropped = d + 1 }, None)).1
            ++ waiting_of (cond {A = Port P × Option P} z (record { busy = Some (record { completes = b.completes; waiting = b.waiting ++ x ∷ [] }); dropped = d }, None) (record { busy = Some b; dropped = d + 1 }, None)).0.busy) b.waiting (x ∷ [])
        go true = inl refl
        go false = inr refl

    next_turn : (d : ℕ) (l : List P) → option_list (next_transmitting tx now d l).1 ++ waiting_of (next_transmitting tx now d l).0.busy ≡ l
    next_turn d [] = refl
    next_turn d (x ∷ l) = refl

    completed_turn : (d : ℕ) (q : Option (Busy P)) → option_list (completed tx now d q).1 ++ waiting_of (completed tx now d q).0.busy ≡ waiting_of q
    completed_turn d None = refl
    completed_turn d (Some b) = next_turn d b.waiting

module _ {P N : Type 0} (net : Net P N) (i : ℕ) where
  -- what starts at interface i, and then what waits there, after an effect
  abbrev line : (ℕ → Port P) → Effect P N → List P
  line ports e = starting i e.transmission ++ waiting_of (turned ports e.turn i).busy

  abbrev new_offer : Option (ℕ × P) → List P
  new_offer o = packets_in (offered_to i (option_list o))

  module _ (ports : ℕ → Port P) (time : ℕ) (came : Option (ℕ × P)) (n : N) (follows : Option (ℕ × ℕ × P)) where
    turned_line : (j : ℕ) (r : Port P × Option P) (more : List P) → Follow (option_list r.1 ++ waiting_of r.0.busy) (waiting_of (ports j).busy) more
        → Follow (line ports (turned_by net came n j r follows)) (waiting_of (ports i).busy) (cond (i == j) more [])
    turned_line j r more h = ⊎_elim
        (λ e.
        let tie : (i == j) ≡ true = ap (λ z. z == j) e ∙ number_tied j in
        let is : line ports (turned_by net came n j r follows) ≡ option_list r.1 ++ waiting_of r.0.busy
        = ap (λ l. l ++ waiting_of (set_at ports j r.0 i).busy) (at_iface_is i j r.1 ∙ ap (λ b. cond b (option_list r.1) []) tie)
        ∙ ap (λ (p : Port P). option_list r.1 ++ waiting_of p.busy) (ap (set_at ports j r.0) e ∙ set_here ports j r.0) in
        let w : waiting_of (ports j).busy ≡ waiting_of (ports i).busy = ap (λ z. waiting_of (ports z).busy) (sym e) in
        let m : more ≡ cond (i == j) more [] = sym (ap (λ b. cond b more []) tie) in
        ⊎_elim
        (λ f. inl (is ∙ f ∙ ap (λ l. l ++ more) w ∙ ap (λ l. waiting_of (ports i).busy ++ l) m))
        (λ f. inr (is ∙ f ∙ w))
        h)
        (λ ne. inr (
        ap (λ l. l ++ waiting_of (set_at ports j r.0 i).busy) (at_iface_is i j r.1 ∙ ap (λ b. cond b (option_list r.1) []) (number_apart i j ne))
        ∙ ap (λ (p : Port P). waiting_of p.busy) (set_there ports j r.0 i ne)))
        (same_number i j)

    sent_line : (o : Option (ℕ × P)) → Follow (line ports (sent_on net ports time came n o follows)) (waiting_of (ports i).busy) (new_offer o)
    sent_line None = inr refl
    sent_line (Some s) = subst (Follow (line ports (sent_on net ports time came n (Some s) follows)) (waiting_of (ports i).busy)) (go (i == s.0))
        (turned_line s.0 (offered (net.room s.0) (net.tx s.0) time s.1 (ports s.0).dropped (ports s.0).busy) (s.1 ∷ []) (offered_turn (net.room s.0) (net.tx s.0) time s.1 (ports s.0).dropped (ports s.0).busy))
      where
        go : (z : Bool) → cond z (s.1 ∷ []) [] ≡ packets_in (cond {A = List (ℕ × P)} z (s ∷ []) [])
        go true = refl
        go false = refl

  effect_line : (nodes : ℕ → N) (ports : ℕ → Port P) (time : ℕ) (number : ℕ) (event : Event P) → Follow (line ports (effect net nodes ports time number event)) (waiting_of (ports i).busy) (new_offer (answer_to net nodes event))
  effect_line nodes ports time number (Delivery (Arrival j) x) = sent_line ports time (Some (j, x)) _ None (net.react (net.owner j) (nodes (net.owner j)) (Arrival j) x).1
  effect_line nodes ports time number (Delivery (Source j) x) = sent_line ports time None _ (by_source j (net.source j (suc number))) (net.react (net.source_node j) (nodes (net.source_node j)) (Source j) x).1
  effect_line nodes ports time number (Completion j) =
      subst (Follow (line ports (effect net nodes ports time number (Completion j))) (waiting_of (ports i).busy)) (go (i == j))
      (turned_line ports time None (nodes (net.owner j)) None j (completed (net.tx j) time (ports j).dropped (ports j).busy) [] (inr (completed_turn (net.room j) (net.tx j) time (ports j).dropped (ports j).busy)))
    where
      go : (z : Bool) → ◌≡◌ {A = List P} (cond z [] []) []
      go true = refl
      go false = refl

  -- all that started, and then all that waits
  abbrev queued : State P N → List P
  queued s = packets_in (passed Out i s.records) ++ waiting_of (s.port i).busy

  step_queued : (here : Place → Bool) (s : State P N) (o : Option (Key × Event P)) → Follow (queued (step_at net here s o)) (queued s) (packets_in (offered_to i (next_offer net s o)))
  step_queued here s None = inr refl
  step_queued here s (Some e) = ⊎_elim (λ h. inl (is ∙ ap (λ l. started ++ l) h ∙ sym (append_assoc started (waiting_of (s.port i).busy) _))) (λ h. inr (is ∙ ap (λ l. started ++ l) h)) (effect_line s.node s.port e.0.time e.0.number e.1)
    where
      started : List P
      started = packets_in (passed Out i s.records)

      is : queued (step_at net here s (Some e)) ≡ packets_in (passed Out i s.records) ++ line s.port (effect net s.node s.port e.0.time e.0.number e.1)
      is = ap (λ l. l ++ waiting_of (turned s.port (effect net s.node s.port e.0.time e.0.number e.1).turn i).busy)
          (ap packets_in (passed-append Out i s.records _ ∙ ap (λ l. passed Out i s.records ++ l)
          (passed-append Out i (in_record e.0.time (effect net s.node s.port e.0.time e.0.number e.1).came) _
          ∙ ap (λ l. l ++ passed Out i (out_record e.0.time (effect net s.node s.port e.0.time e.0.number e.1).transmission)) (in_none e.0.time i (effect net s.node s.port e.0.time e.0.number e.1).came)))
          ∙ packets-append (passed Out i s.records) (passed Out i (out_record e.0.time (effect net s.node s.port e.0.time e.0.number e.1).transmission))
          ∙ ap (λ l. packets_in (passed Out i s.records) ++ l) (out_is e.0.time i (effect net s.node s.port e.0.time e.0.number e.1).transmission))
          ∙ append_assoc (packets_in (passed Out i s.records)) (starting i (effect net s.node s.port e.0.time e.0.number e.1).transmission) _

  pub in_turn : (n : ℕ) → IsSubsequence (packets_in (passed Out i (one_list net n).records) ++ waiting_of ((one_list net n).port i).busy) (packets_in (offered_to i (offers net n)))
  in_turn zero = tt
  in_turn (suc n) =
      subst (IsSubsequence (queued (one_list net (suc n))))
      (sym (ap packets_in (kept-append (λ o. i == o.0) (offers net n) (next_offer net (one_list net n) (least (one_list net n).pending)))
      ∙ packets-append (offered_to i (offers net n)) (offered_to i (next_offer net (one_list net n) (least (one_list net n).pending)))))
      (sub_follow (queued (one_list net (suc n))) (queued (one_list net n)) (packets_in (offered_to i (next_offer net (one_list net n) (least (one_list net n).pending)))) (packets_in (offered_to i (offers net n)))
      (step_queued (λ q. true) (one_list net n) (least (one_list net n).pending)) (in_turn n))
