-- A measured network goes on, event by event.
use Rattle.std.proofs.Common.{◌≡◌, ℕ, suc, ◌+◌, ◌<◌, ◌≤◌, true, List, map, Option, Some, None, sym, ap, ◌∙◌, subst, arith, ⊎_elim}
use Rattle.std.specs.Option.{option_map}
use Rattle.std.proofs.lemmas.Bool.{cases_lt}
use Rattle.std.proofs.lemmas.Bool.Decides.{nat_tests}
use Rattle.nm_base.specs.declared.event.Event.{Event}
use Rattle.nm_base.specs.declared.key.Key.{Key}
use Rattle.nm_events.specs.Held.{Held, pending_of}
use Rattle.nm_model.specs.EventList.{is_before, least}
use Rattle.nm_model.specs.Run.{one_list, pends_before, step}
use Rattle.nm_model.proofs.Keys.{least_has}
use Rattle.nm_topology.specs.TopologyValue.{TopologyValue}
use Rattle.nm_sim.specs.Effects.{IsPlaceIn}
use Rattle.nm_sim.specs.Network.{net_of}
use Rattle.nm_sim.specs.Part.{PartValue, Represents}
use Rattle.nm_measure.specs.declared.seen.Seen.{Seen}
use Rattle.nm_base.specs.declared.wanted.Wanted.TheVariants.{Nothing}
use Rattle.nm_sim.specs.Records.{Keeping}
use Rattle.nm_sim.specs.Told.{Happens, HappensNext}
use Rattle.nm_sim.specs.declared.told.Happened.{Happened}
use Rattle.nm_measure.specs.Interfaces.{AreSeen, IsNext}
use Rattle.nm_measure.specs.Flows.{sent_numbers}
use Rattle.nm_measure.specs.Lanes.{WatchesRun}
use Rattle.nm_measure.specs.Starts.{AreStarts, start_of}
use Rattle.nm_measure.specs.declared.watched.Watched.{Watched}
use Rattle.nm_measure.specs.Measured.{HasStarts, HasWatched, IsMeasuredBefore, IsMeasuring, MeasuredValue}
use Rattle.nm_measure.specs.Sent.{AreSent, sent_later}
use Rattle.nm_measure.proofs.Making.{sent_next}
use Rattle.nm_measure.proofs.Readings.{event_of}

later : {P : Type 0} (from until : ℕ) (o : Option (Key × Event P)) → from ≤ until → is_before from o ≡ true → is_before until o ≡ true
later from until None le h = h
later from until (Some e) le h = grind (arith, nat_tests, h, le)

module _ (t : TopologyValue) where
  -- from a time on
  pub measuring_first : (from until : ℕ) (m : MeasuredValue) → IsMeasuredBefore t from m → from ≤ until → (seen : List Seen) (w : Watched)
      → ((first n : ℕ) → AreSeen t first n m.seen → AreSeen t n n seen)
      → ((n : ℕ) → HasWatched t n m → WatchesRun t n w)
      → ((first n : ℕ) → HasWatched t n m → HasStarts t first n m → AreStarts t n n (map start_of w.flows.times.items))
      → sent_numbers w.flows.counts.items ≡ m.sent
      → IsMeasuring t m.part.steps until (record m { seen = seen; sent = sent_numbers w.flows.counts.items; counts = w.flows.counts.items; times = w.flows.times.items; lanes = w.lanes.items; courses = w.courses })
  measuring_first from until m h le seen w begins watches starts sent = record {
    events = h.events;
    early = λ n l. later from until (least (one_list (net_of t) n).pending) le (h.over.first n l);
    whole = record { represents = h.represents; keeps = h.keeps };
    steps = h.steps;
    seen = subst (λ f. AreSeen t f h.events seen) (sym h.steps) (begins h.first h.events h.seen);
    sent = subst (AreSent t h.events) (sym sent) h.sent;
    watched = watches h.events h.watched;
    starts = subst (λ f. AreStarts t f h.events (map start_of w.flows.times.items)) (sym h.steps) (starts h.first h.events h.watched h.starts);
  }

  module _ (first until : ℕ) (m : MeasuredValue) (h : IsMeasuring t first until m) (q : PartValue Held) (key : Key) (what : Happened)
      (after : Represents pending_of t None q (step (net_of t) (λ x. true) (one_list (net_of t) h.events)))
      (due : pends_before until (one_list (net_of t) h.events) ≡ true)
      (taken : option_map (λ e. e.0) (least (one_list (net_of t) h.events).pending) ≡ Some key)
      (happens : HappensNext t m.part.records.keeping.wanted (one_list (net_of t) h.events) what) where
    the_event : (e : Key × Event (List ℕ)) × (least (one_list (net_of t) h.events).pending ≡ Some e) × (e.0 ≡ key) × (e.0.time < until)
    the_event = event_of until (least (one_list (net_of t) h.events).pending) key due taken

    -- the event stands at a place of the network
    pub place_in : IsPlaceIn t key.place
    place_in = subst (λ k. IsPlaceIn t k.place) the_event.2
        (h.whole.represents.placed the_event.0.0 the_event.0.1 (least_has (one_list (net_of t) h.events).pending the_event.0 the_event.1))

    happened_is : Happens t Nothing (one_list (net_of t) h.events) the_event.0 what
    happened_is = subst (λ (k : Keeping). Happens t k.wanted (one_list (net_of t) h.events) the_event.0 what) h.whole.keeps (happens the_event.0 the_event.1)

    -- the part is after it
    pub next_of : until ≤ t.stop → IsNext t h.events key.time key.place q what
    next_of within =
        let soon = the_event.3 in
        let same = ap (λ k. k.time) the_event.2 in
        record {
          event = the_event.0;
          first = the_event.1;
          at_time = same;
          at_place = ap (λ k. k.place) the_event.2;
          early = omega (arith, soon, same, within);
          before = (m.part, h.whole.represents);
          represents = after;
          happened = happened_is;
        }

    -- one event later
    pub measuring_next : (new : MeasuredValue)
        → q.records.keeping ≡ m.part.records.keeping → q.steps ≡ m.part.steps + 1 → AreSeen t first (suc h.events) new.seen → new.sent ≡ sent_later key.place m.sent
        → HasWatched t (suc h.events) new → HasStarts t first (suc h.events) new → IsMeasuring t first until (record new { part = q })
    measuring_next new keeping steps sees made watched starts =
        let e = the_event.0 in
        record {
          events = suc h.events;
          early = λ n l. ⊎_elim
              (λ before. h.early n before)
              (λ last. let is : h.events ≡ n = omega (arith, l, last) in subst (λ k. pends_before until (one_list (net_of t) k) ≡ true) is due)
              (cases_lt n h.events);
          whole = record { represents = after; keeps = keeping ∙ h.whole.keeps };
          steps = let s = h.steps in omega (arith, steps, s);
          seen = sees;
          sent = subst (AreSent t (suc h.events)) (sym made)
              (sent_next t h.events m.sent h.sent e key.place the_event.1 (ap (λ k. k.place) the_event.2));
          watched = watched;
          starts = starts;
        }
