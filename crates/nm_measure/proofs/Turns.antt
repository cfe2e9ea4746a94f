-- What one event changes at the interfaces of a network.
use Rattle.std.proofs.Common.{◌≡◌, ◌≢◌, ℕ, suc, ◌+◌, ◌≤◌, Bool, true, false, cond, List, [], ◌∷◌, ◌++◌, Option, Some, None, refl, sym, ap, ◌∙◌, subst, arith, ⊎_elim, zero}
use Rattle.std.specs.Option.{option_map_or}
use Rattle.nm_base.specs.declared.event.Event.{Event}
use Rattle.nm_base.specs.declared.event.Event.TheVariants.{Delivery, Completion}
use Rattle.nm_base.specs.declared.event.Origin.TheVariants.{Arrival, Source}
use Rattle.nm_base.specs.declared.key.Key.{Key}
use Rattle.nm_base.specs.declared.record.Dir.TheVariants.{Out}
use Rattle.nm_base.specs.declared.record.Record.{Record}
use Rattle.nm_model.specs.EventList.{least}
use Rattle.nm_model.specs.Network.{Net}
use Rattle.nm_base.specs.declared.event.Origin.{Origin}
use Rattle.nm_model.specs.Offers.{offering_at, offering_in, offering_of}
use Rattle.nm_model.specs.declared.offering.Offering.TheVariants.{Waits, Dropped}
use Rattle.nm_measure.specs.Interfaces.{queued_at, waits_at}
use Rattle.nm_model.specs.Port.{Busy, Port, completed, next_transmitting, offered}
use Rattle.nm_model.specs.Run.{Effect, apply, at_iface, by_source, effect, in_record, one_list, out_record, sent_on, step_at, turned}
use Rattle.nm_model.specs.RunLaws.{KeysRise}
use Rattle.nm_model.specs.Trace.{passed}
use Rattle.nm_model.proofs.Keys.{up_to_time}
use Rattle.nm_model.proofs.ListLemmas.{not_some, number_apart, number_tied, option_cases, same_number, set_here, set_there, some_inj}
use Rattle.nm_model.proofs.Traces.{passed-append}
use Rattle.nm_measure.specs.Queues.{in_octets, in_packets, time_after}

-- a packet that starts at once, or is dropped, leaves the queue as it is
offered_stays : (room : List (List ℕ) → List ℕ → Bool) (tx : List ℕ → ℕ) (time i : ℕ) (x : List ℕ) (dropped : ℕ) (b : Option (Busy (List ℕ))) → queued_at (offering_at room i x b) ≢ Some i
    → waits_at (offered room tx time x dropped b).0 ≡ waits_at (record { busy = b; dropped = dropped })
offered_stays room tx time i x dropped None other = refl
offered_stays room tx time i x dropped (Some b) other = go (room b.waiting x) other
  where
    go : (q : Bool) → queued_at (cond q (Waits i) (Dropped i)) ≢ Some i
        → waits_at (cond {A = Port (List ℕ) × Option (List ℕ)} q (record { busy = Some (record { completes = b.completes; waiting = b.waiting ++ x ∷ [] }); dropped = dropped }, None) (record { busy = Some b; dropped = dropped + 1 }, None)).0
        ≡ waits_at (record { busy = Some b; dropped = dropped })
    go true waits = absurd (waits refl)
    go false waits = refl

-- so does a completion behind which none starts
next_stays : (tx : List ℕ → ℕ) (time dropped : ℕ) (waiting : List (List ℕ)) → (next_transmitting tx time dropped waiting).1 ≡ None
    → waits_at (next_transmitting tx time dropped waiting).0 ≡ record { packets = in_packets waiting; octets = in_octets waiting }
next_stays tx time dropped [] none = refl
next_stays tx time dropped (x ∷ waiting) none = absurd (not_some x (sym none))

completed_stays : (tx : List ℕ → ℕ) (time dropped : ℕ) (b : Option (Busy (List ℕ))) → (completed tx time dropped b).1 ≡ None
    → waits_at (completed tx time dropped b).0 ≡ waits_at (record { busy = b; dropped = dropped })
completed_stays tx time dropped None none = refl
completed_stays tx time dropped (Some b) none = next_stays tx time dropped b.waiting none

at_none : {P : Type 0} (i : ℕ) (o : Option P) → at_iface i o ≡ None → o ≡ None
at_none i None h = refl
at_none i (Some x) h = absurd (not_some (i, x) (sym h))

module _ {P N : Type 0} (net : Net P N) where
  -- of two ports with a turn one is as before
  turned_same : (ports : ℕ → Port P) (o : Option (ℕ × Port P)) (i : ℕ) → ((w : ℕ × Port P) → o ≡ Some w → i ≢ w.0) → turned ports o i ≡ ports i
  turned_same ports None i h = refl
  turned_same ports (Some w) i h = set_there ports w.0 w.1 i (h w refl)

  -- and the one with a turn is that of the turn
  turned_here : (ports : ℕ → Port P) (w : ℕ × Port P) → turned ports (Some w) w.0 ≡ w.1
  turned_here ports w = set_here ports w.0 w.1

  module _ (n : ℕ) (e : Key × Event P) (first : least (one_list net n).pending ≡ Some e) where
    abbrev pub effect_at : Effect P N
    effect_at = effect net (one_list net n).node (one_list net n).port e.0.time e.0.number e.1

    pub next_state : one_list net (suc n) ≡ apply net (λ q. true) e.0 effect_at (one_list net n)
    next_state = ap (step_at net (λ q. true) (one_list net n)) first

    -- a port that has no turn is as before
    pub port_same : (i : ℕ) → ((w : ℕ × Port P) → effect_at.turn ≡ Some w → i ≢ w.0) → (one_list net (suc n)).port i ≡ (one_list net n).port i
    port_same i h = ap (λ s. s.port i) next_state ∙ turned_same (one_list net n).port effect_at.turn i h

    -- a completion turns the port of its own interface
    pub port_beside_completed : (a : ℕ) → e.1 ≡ Completion a → (i : ℕ) → i ≢ a → (one_list net (suc n)).port i ≡ (one_list net n).port i
    port_beside_completed a is i other = port_same i (λ w h same. other (same ∙ sym (at_completion (one_list net n).node (one_list net n).port e.0.time e.0.number e.1 w is h)))
      where
        at_completion : (nodes : ℕ → N) (ports : ℕ → Port P) (time number : ℕ) (f : Event P) (w : ℕ × Port P) → f ≡ Completion a → (effect net nodes ports time number f).turn ≡ Some w → a ≡ w.0
        at_completion nodes ports time number f w is h = ap (λ z. z.0) (some_inj _ w (ap (λ g. (effect net nodes ports time number g).turn) (sym is) ∙ h))

    -- its records
    pub next_records : (one_list net (suc n)).records ≡ (one_list net n).records ++ (in_record e.0.time effect_at.came ++ out_record e.0.time effect_at.transmission)
    next_records = ap (λ s. s.records) next_state

    -- when it happens
    pub time_is : time_after net (suc n) ≡ e.0.time
    time_is = ap (λ o. option_map_or (λ (z : Key × Event P). z.0.time) o (time_after net n)) first

    pub time_rises : ((m : ℕ) → KeysRise net m) → time_after net n ≤ e.0.time
    time_rises rise = go n first
      where
        go : (m : ℕ) → least (one_list net m).pending ≡ Some e → time_after net m ≤ e.0.time
        go zero h = omega arith
        go (suc m) h = ⊎_elim
            (λ none. let same : one_list net (suc m) ≡ one_list net m = ap (step_at net (λ q. true) (one_list net m)) none in
            absurd (not_some e (sym none ∙ ap (λ s. least s.pending) (sym same) ∙ h)))
            (λ z. let later = up_to_time z.0.0 e.0 ((rise m).keys z.0 e z.1 h).0 in
            let at : time_after net (suc m) ≡ z.0.0.time = ap (λ o. option_map_or (λ (y : Key × Event P). y.0.time) o (time_after net m)) z.1 in
            omega (arith, later, at))
            (option_cases (least (one_list net m).pending))

-- the queues that an event leaves as they are
module _ {N : Type 0} (net : Net (List ℕ) N) where
  module _ (ports : ℕ → Port (List ℕ)) (time : ℕ) where
    -- one at which what is sent does not wait
    sent_stays : (came : Option (ℕ × List ℕ)) (n : N) (sent : Option (ℕ × List ℕ)) (follows : Option (ℕ × ℕ × List ℕ)) (i : ℕ) → queued_at (offering_of net ports sent) ≢ Some i
        → waits_at (turned ports (sent_on net ports time came n sent follows).turn i) ≡ waits_at (ports i)
    sent_stays came n None follows i other = refl
    sent_stays came n (Some s) follows i other = ⊎_elim
        (λ same. ap (λ j. waits_at (turned ports (Some (s.0, port)) j)) same ∙ ap waits_at (turned_here net ports (s.0, port))
        ∙ offered_stays (net.room s.0) (net.tx s.0) time s.0 s.1 (ports s.0).dropped (ports s.0).busy (λ e. other (e ∙ ap Some (sym same))) ∙ ap (λ j. waits_at (ports j)) (sym same))
        (λ apart. ap waits_at (turned_same net ports (Some (s.0, port)) i (λ w h e. apart (e ∙ ap (λ (y : ℕ × Port (List ℕ)). y.0) (sym (some_inj (s.0, port) w h))))))
        (same_number i s.0)
      where
        port : Port (List ℕ)
        port = (offered (net.room s.0) (net.tx s.0) time s.1 (ports s.0).dropped (ports s.0).busy).0

    -- one that completes, if nothing starts
    completion_stays : (nodes : ℕ → N) (number a : ℕ) → (effect net nodes ports time number (Completion a)).transmission ≡ None
        → waits_at (turned ports (effect net nodes ports time number (Completion a)).turn a) ≡ waits_at (ports a)
    completion_stays nodes number a none =
        let r = completed (net.tx a) time (ports a).dropped (ports a).busy in
        ap waits_at (turned_here net ports (a, r.0)) ∙ completed_stays (net.tx a) time (ports a).dropped (ports a).busy (at_none a r.1 none)

    delivery_stays : (nodes : ℕ → N) (number : ℕ) (o : Origin) (x : List ℕ) (i : ℕ) → queued_at (offering_in net nodes ports (Delivery o x)) ≢ Some i
        → waits_at (turned ports (effect net nodes ports time number (Delivery o x)).turn i) ≡ waits_at (ports i)
    delivery_stays nodes number (Arrival k) x i other =
        let r = net.react (net.owner k) (nodes (net.owner k)) (Arrival k) x in
        sent_stays (Some (k, x)) r.0 r.1 None i other
    delivery_stays nodes number (Source j) x i other =
        let r = net.react (net.source_node j) (nodes (net.source_node j)) (Source j) x in
        sent_stays None r.0 r.1 (by_source j (net.source j (suc number))) i other

  module _ (n : ℕ) (e : Key × Event (List ℕ)) (first : least (one_list net n).pending ≡ Some e) where
    -- the queue after an event, by its effect
    pub queue_next : (i : ℕ) → waits_at ((one_list net (suc n)).port i) ≡ waits_at (turned (one_list net n).port (effect_at net n e first).turn i)
    queue_next i = ap (λ s. waits_at (s.port i)) (next_state net n e first)

    pub queue_completed : (a : ℕ) → e.1 ≡ Completion a → (effect_at net n e first).transmission ≡ None → waits_at ((one_list net (suc n)).port a) ≡ waits_at ((one_list net n).port a)
    queue_completed a is none = queue_next a ∙ ap (λ f. waits_at (turned (one_list net n).port (effect net (one_list net n).node (one_list net n).port e.0.time e.0.number f).turn a)) is
        ∙ completion_stays (one_list net n).port e.0.time (one_list net n).node e.0.number a
        (ap (λ f. (effect net (one_list net n).node (one_list net n).port e.0.time e.0.number f).transmission) (sym is) ∙ none)

    pub queue_delivered : (o : Origin) (x : List ℕ) → e.1 ≡ Delivery o x → (i : ℕ) → queued_at (offering_in net (one_list net n).node (one_list net n).port e.1) ≢ Some i
        → waits_at ((one_list net (suc n)).port i) ≡ waits_at ((one_list net n).port i)
    queue_delivered o x is i other = queue_next i ∙ ap (λ f. waits_at (turned (one_list net n).port (effect net (one_list net n).node (one_list net n).port e.0.time e.0.number f).turn i)) is
        ∙ delivery_stays (one_list net n).port e.0.time (one_list net n).node e.0.number o x i
        (λ h. other (ap (λ f. queued_at (offering_in net (one_list net n).node (one_list net n).port f)) is ∙ h))

-- there is one event of a number, and what it starts is what that starts
pub event_only : {P N : Type 0} (net : Net P N) (n : ℕ) (e f : Key × Event P) → least (one_list net n).pending ≡ Some e → least (one_list net n).pending ≡ Some f
    → (effect net (one_list net n).node (one_list net n).port e.0.time e.0.number e.1).transmission ≡ None
    → (effect net (one_list net n).node (one_list net n).port f.0.time f.0.number f.1).transmission ≡ None
event_only net n e f a b h = subst (λ z. (effect net (one_list net n).node (one_list net n).port z.0.time z.0.number z.1).transmission ≡ None) (some_inj e f (sym a ∙ b)) h

-- the starts in records, and one more
pub no_starts_in : {P : Type 0} (i time : ℕ) (came : Option (ℕ × P)) → passed Out i (in_record time came) ≡ []
no_starts_in i time None = refl
no_starts_in i time (Some a) = refl

pub starts_more : {P : Type 0} (i time : ℕ) (records : List (Record P)) (came start : Option (ℕ × P))
    → passed Out i (records ++ (in_record time came ++ out_record time start)) ≡ passed Out i records ++ passed Out i (out_record time start)
starts_more i time records came start =
    passed-append Out i records _ ∙ ap (λ l. passed Out i records ++ l) (passed-append Out i (in_record time came) (out_record time start)
    ∙ ap (λ l. l ++ passed Out i (out_record time start)) (no_starts_in i time came))

pub starts_here : {P : Type 0} (i time : ℕ) (x : P) → passed Out i (out_record time (Some (i, x))) ≡ (time, x) ∷ []
starts_here i time x = ap (λ b. cond b ((time, x) ∷ []) []) (number_tied i)

pub starts_elsewhere : {P : Type 0} (i time : ℕ) (start : Option (ℕ × P)) → ((a : ℕ × P) → start ≡ Some a → i ≢ a.0) → passed Out i (out_record time start) ≡ []
starts_elsewhere i time None h = refl
starts_elsewhere i time (Some a) h = ap (λ b. cond b ((time, a.1) ∷ []) []) (number_apart i a.0 (h a refl))
