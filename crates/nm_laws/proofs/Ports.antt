-- The packets offered to an interface have started, wait, or were dropped.
use Rattle.std.proofs.Common.{◌≡◌, ℕ, zero, suc, ◌+◌, ◌≤◌, Bool, true, false, cond, ◌==◌, List, [], ◌∷◌, ◌++◌, length, Option, Some, None, refl, ap, ◌∙◌, arith, ⊎_elim, length-append}
use Rattle.nm_base.specs.declared.key.Place.{Place}
use Rattle.nm_base.specs.declared.key.Key.{Key}
use Rattle.nm_base.specs.declared.event.Event.{Event}
use Rattle.nm_base.specs.declared.event.Event.TheVariants.{Delivery, Completion}
use Rattle.nm_base.specs.declared.event.Origin.TheVariants.{Arrival, Source}
use Rattle.nm_base.specs.declared.record.Dir.{Dir}
use Rattle.nm_base.specs.declared.record.Dir.TheVariants.{Out}
use Rattle.nm_base.specs.declared.record.Record.{Record}
use Rattle.nm_model.specs.EventList.{least}
use Rattle.nm_model.specs.Lists.{set_at}
use Rattle.nm_model.specs.Network.{Net}
use Rattle.nm_model.specs.Port.{Busy, Port, offered, completed, next_transmitting, waiting_of, option_list}
use Rattle.nm_model.specs.Run.{State, Effect, effect, at_iface, by_source, turned, turned_by, sent_on, in_record, out_record, step_at, one_list}
use Rattle.nm_model.specs.Trace.{passed}
use Rattle.nm_model.proofs.Traces.{passed-append}
use Rattle.nm_model.proofs.ListLemmas.{same_number, number_apart, number_tied, set_here, set_there, kept-append}
use Rattle.nm_laws.specs.Offered.{answer_to, next_offer, offers, offered_to}

-- the records of one event in one direction at an interface
module _ {P : Type 0} where
  pub in_none : (time i : ℕ) (o : Option (ℕ × P)) → passed Out i (in_record time o) ≡ []
  in_none time i None = refl
  in_none time i (Some a) = refl

  -- how many start at interface i
  abbrev starts : ℕ → Option (ℕ × P) → ℕ
  starts i None = 0
  starts i (Some s) = cond (i == s.0) 1 0

  out_counts : (time i : ℕ) (o : Option (ℕ × P)) → length (passed Out i (out_record time o)) ≡ starts i o
  out_counts time i None = refl
  out_counts time i (Some s) = go (i == s.0)
    where
      go : (z : Bool) → length (cond {A = List (ℕ × P)} z ((time, s.1) ∷ []) []) ≡ cond z 1 0
      go true = refl
      go false = refl

  started_more : (time i : ℕ) (l : List (Record P)) (came start : Option (ℕ × P)) → length (passed Out i (l ++ (in_record time came ++ out_record time start))) ≡ length (passed Out i l) + starts i start
  started_more time i l came start =
      let a = ap length (passed-append Out i l (in_record time came ++ out_record time start)) in
      let b = length-append (passed Out i l) (passed Out i (in_record time came ++ out_record time start)) in
      let c = ap length (passed-append Out i (in_record time came) (out_record time start) ∙ ap (λ z. z ++ passed Out i (out_record time start)) (in_none time i came)) in
      let d = out_counts time i start in
      omega arith

  -- how many packets of a port wait, or were dropped
  abbrev held : Port P → ℕ
  held w = length (waiting_of w.busy) + w.dropped

  -- one of an option
  abbrev one : Option P → ℕ
  one None = 0
  one (Some x) = 1

  at_iface_starts : (i j : ℕ) (o : Option P) → starts i (at_iface j o) ≡ cond (i == j) (one o) 0
  at_iface_starts i j None = go (i == j)
    where
      go : (z : Bool) → ◌≡◌ {A = ℕ} 0 (cond z 0 0)
      go true = refl
      go false = refl
  at_iface_starts i j (Some x) = refl

  module _ (room : List P → P → Bool) (tx : P → ℕ) (now : ℕ) where
    offered_holds : (x : P) (d : ℕ) (q : Option (Busy P)) → held (offered room tx now x d q).0 + one (offered room tx now x d q).1 ≡ length (waiting_of q) + d + 1
    offered_holds x d None = omega arith
    offered_holds x d (Some b) = go (room b.waiting x)
      where
        go : (z : Bool) → held (cond {A = Port P × Option P} z (record { busy = Some (record { completes = b.completes; waiting = b.waiting ++ x ∷ [] }); dropped = d }, None) (record { busy = Some b; dropped = d + 1 }, None)).0 + one (cond {A = Port P × Option P} z (record { busy = Some (record { completes = b.completes; waiting = b.waiting ++ x ∷ [] }); dropped = d }, None) (record { busy = Some b; dropped = d + 1 }, None)).1 ≡ length b.waiting + d + 1
        go true = omega (arith, length-append b.waiting (x ∷ []))
        go false = omega arith

    next_holds : (d : ℕ) (l : List P) → held (next_transmitting tx now d l).0 + one (next_transmitting tx now d l).1 ≡ length l + d
    next_holds d [] = omega arith
    next_holds d (x ∷ l) = omega arith

    completed_holds : (d : ℕ) (q : Option (Busy P)) → held (completed tx now d q).0 + one (completed tx now d q).1 ≡ length (waiting_of q) + d
    completed_holds d None = omega arith
    completed_holds d (Some b) = next_holds d b.waiting

module _ {P N : Type 0} (net : Net P N) (i : ℕ) where
  -- all that has started, waits or was dropped at interface i
  abbrev known : State P N → ℕ
  known s = length (passed Out i s.records) + held (s.port i)

  -- after an effect, the port of interface i and what starts there
  abbrev gives : (ℕ → Port P) → Effect P N → ℕ
  gives ports e = held (turned ports e.turn i) + starts i e.transmission

  abbrev given : Option (ℕ × P) → ℕ
  given o = length (offered_to i (option_list o))

  module _ (ports : ℕ → Port P) (time : ℕ) (came : Option (ℕ × P)) (n : N) (follows : Option (ℕ × ℕ × P)) where
    turned_gives : (j : ℕ) (r : Port P × Option P) (k : ℕ) → held r.0 + one r.1 ≡ held (ports j) + k → gives ports (turned_by net came n j r follows) ≡ held (ports i) + cond (i == j) k 0
    turned_gives j r k h = ⊎_elim
        (λ e.
        let a = ap held (ap (set_at ports j r.0) e ∙ set_here ports j r.0) in
        let b = at_iface_starts i j r.1 in
        let c = ap (λ z. cond z (one r.1) 0) (ap (λ z. z == j) e ∙ number_tied j) in
        let d = ap (λ z. cond z k 0) (ap (λ z. z == j) e ∙ number_tied j) in
        let f = ap (λ z. held (ports z)) e in
        omega arith)
        (λ ne.
        let a = ap held (set_there ports j r.0 i ne) in
        let b = at_iface_starts i j r.1 in
        let c = ap (λ z. cond z (one r.1) 0) (number_apart i j ne) in
        let d = ap (λ z. cond z k 0) (number_apart i j ne) in
        omega arith)
        (same_number i j)

    sent_gives : (o : Option (ℕ × P)) → gives ports (sent_on net ports time came n o follows) ≡ held (ports i) + given o
    sent_gives None = refl
    sent_gives (Some s) =
        let a = offered_holds (net.room s.0) (net.tx s.0) time s.1 (ports s.0).dropped (ports s.0).busy in
        let b = turned_gives s.0 (offered (net.room s.0) (net.tx s.0) time s.1 (ports s.0).dropped (ports s.0).busy) 1 a in
        b ∙ ap (λ z. held (ports i) + z) (go (i == s.0))
      where
        go : (z : Bool) → cond z 1 0 ≡ length (cond {A = List (ℕ × P)} z (s ∷ []) [])
        go true = refl
        go false = refl

  effect_gives : (nodes : ℕ → N) (ports : ℕ → Port P) (time : ℕ) (number : ℕ) (event : Event P) → gives ports (effect net nodes ports time number event) ≡ held (ports i) + given (answer_to net nodes event)
  effect_gives nodes ports time number (Delivery (Arrival j) x) = sent_gives ports time (Some (j, x)) _ None (net.react (net.owner j) (nodes (net.owner j)) (Arrival j) x).1
  effect_gives nodes ports time number (Delivery (Source j) x) = sent_gives ports time None _ (by_source j (net.source j (suc number))) (net.react (net.source_node j) (nodes (net.source_node j)) (Source j) x).1
  effect_gives nodes ports time number (Completion j) =
      let r = completed (net.tx j) time (ports j).dropped (ports j).busy in
      let h = completed_holds (net.room j) (net.tx j) time (ports j).dropped (ports j).busy in
      turned_gives ports time None (nodes (net.owner j)) None j r 0 (omega (arith, h))
      ∙ ap (λ z. held (ports i) + z) (go (i == j))
    where
      go : (z : Bool) → ◌≡◌ {A = ℕ} (cond z 0 0) 0
      go true = refl
      go false = refl

  step_gives : (here : Place → Bool) (s : State P N) (o : Option (Key × Event P)) → known (step_at net here s o) ≡ known s + length (offered_to i (next_offer net s o))
  step_gives here s None = omega arith
  step_gives here s (Some e) =
      let does : Effect P N = effect net s.node s.port e.0.time e.0.number e.1 in
      let a = effect_gives s.node s.port e.0.time e.0.number e.1 in
      let b = started_more e.0.time i s.records does.came does.transmission in
      omega arith

  pub offered_is : (n : ℕ) → length (offered_to i (offers net n)) ≡ length (passed Out i (one_list net n).records) + length (waiting_of ((one_list net n).port i).busy) + ((one_list net n).port i).dropped
  offered_is zero = refl
  offered_is (suc n) =
      let a = offered_is n in
      let b = step_gives (λ q. true) (one_list net n) (least (one_list net n).pending) in
      let c = ap length (kept-append (λ o. i == o.0) (offers net n) (next_offer net (one_list net n) (least (one_list net n).pending))) in
      let d = length-append (offered_to i (offers net n)) (offered_to i (next_offer net (one_list net n) (least (one_list net n).pending))) in
      omega arith

module _ {P N : Type 0} (net : Net P N) where
  next_few : (s : State P N) (o : Option (Key × Event P)) → length (next_offer net s o) ≤ 1
  next_few s None = omega arith
  next_few s (Some e) = go (answer_to net s.node e.1)
    where
      go : (o : Option (ℕ × P)) → length (option_list o) ≤ 1
      go None = omega arith
      go (Some a) = omega arith

  pub offers_few : (n : ℕ) → length (offers net n) ≤ n
  offers_few zero = omega arith
  offers_few (suc n) =
      let a = offers_few n in
      let b = next_few (one_list net n) (least (one_list net n).pending) in
      let c = length-append (offers net n) (next_offer net (one_list net n) (least (one_list net n).pending)) in
      omega arith
