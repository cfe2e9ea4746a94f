-- A part after a step represents the state after that step.
use Rattle.std.proofs.Common.{true≢false, ⊎_elim, cond, ◌&&◌, ◌==◌, not, Bool, slice_get, slice_index, ◌≡◌, ℕ, zero, suc, ◌+◌, ◌*◌, ◌<◌, ◌≤◌, true, false, ltb, List, [], ◌∷◌, ◌++◌, length, Option, Some, None, refl, sym, ap, ◌∙◌, subst, arith, append-nil, append_assoc, length-append}
use Rattle.std.specs.FinMap.{FinMap, insert, remove}
use Rattle.std.specs.Option.{IfSome}
use Rattle.nm_base.specs.declared.event.Event.{Event}
use Rattle.nm_base.specs.declared.key.Key.{Key}
use Rattle.nm_base.specs.declared.event.Event.TheVariants.{Delivery}
use Rattle.nm_base.specs.declared.event.Origin.TheVariants.{Arrival}
use Rattle.nm_base.specs.declared.key.Place.TheVariants.{Arrive, Fire}
use Rattle.nm_base.specs.Event.{event_place}
use Rattle.nm_base.specs.Key.{key_cmp, key_of}
use Rattle.nm_topology.specs.Accepted.{IsInOrder}
use Rattle.nm_topology.specs.TopologyValue.{TopologyValue}
use Rattle.nm_model.specs.EventList.{schedule}
use Rattle.nm_model.specs.Lists.{nth}
use Rattle.nm_model.specs.Orderly.{IsOrderly}
use Rattle.nm_model.specs.Run.{Effect, State, effect, in_record, keyed, next_events, out_record, sent_after, transmission_events, step, step_at}
use Rattle.nm_forward.specs.State.{NodeStateValue}
use Rattle.nm_iface.specs.declared.port.Start.{Start}
use Rattle.nm_model.specs.EventList.{is_before}
use Rattle.nm_model.specs.Port.{Port, waiting_of}
use Rattle.nm_traffic.specs.Source.{source_of}
use Rattle.std.specs.Option.{option_and_then, option_map}
use Rattle.std.proofs.lemmas.Bool.Decides.{nat_tests}
use Rattle.nm_sim.specs.Tables.{AllHere, IsThere}
use Rattle.nm_sim.specs.Outgoing.{OutgoingRepresents, messages_in}
use Rattle.nm_iface.specs.PortValue.{PortValue}
use Rattle.nm_model.specs.Partition.{comes_in}
use Rattle.nm_sim.specs.Devices.{DeviceStates, DevicesRepresent, DevicesValue, IsNodeOf, IsPortOf, IsSame, IsSamePort}
use Rattle.nm_sim.specs.Effects.{IsPlaceIn, TransmitsAt, states_after, transmission_of}
use Rattle.nm_topology.specs.Topology.{receiving_iface}
use Rattle.nm_sim.specs.Network.{far_from, here_of, is_iface_here, is_node_here, is_source_here, net_of}
use Rattle.std.proofs.lemmas.Option.{slice_get_cases, slice_get_past}
use Rattle.nm_forward.specs.declared.counter.Counter.{Counter}
use Rattle.nm_forward.specs.Counter.{counter_number}
use Rattle.nm_base.specs.Count.{saturated}
use Rattle.nm_sim.specs.Part.{Doing, IsReady, IsUnderWay, PartValue, Represents, RepresentsNext, busy_at, completes_at, count_at, drops_at, states_in, waiting_at, with_arrival}
use Rattle.nm_sim.specs.Timelines.{TimelineRepresents}
use Rattle.nm_sim.proofs.Schedules.{next_here, one_more, placed_insert, placed_next, placed_remove, placed_schedule, placed_transmission, schedule_append}
use Rattle.nm_sim.proofs.Beginnings.{numbered_same}
use Rattle.nm_sim.proofs.Doings.{follows_at}
use Rattle.nm_sim.proofs.Pendings.{put_back}
use Rattle.nm_sim.specs.Records.{RecordsRepresent, RecordsValue, cut}
use Rattle.nm_sim.proofs.Outgoings.{outgoing_same}
use Rattle.nm_sim.proofs.Cuts.{length-cut}
use Rattle.nm_sim.proofs.Recordings.{records_same, rest_is_all}
use Rattle.nm_base.specs.declared.record.Record.{Record}
use Rattle.nm_sim.proofs.Steps.{least_has, pending_here}
use Rattle.nm_sim.proofs.Kept.{Kept}
use Rattle.nm_model.proofs.ListLemmas.{not_some, some_inj}

transmits_within : (t : TopologyValue) (part : Option ℕ) (time : ℕ) (o : Option (ℕ × Start)) → IfSome o (TransmitsAt t part time) → IfSome (transmission_of o) (λ z. z.0 < length t.ifaces)
transmits_within t part time None h = tt
transmits_within t part time (Some z) h = h.0.0

-- an event makes two records at most
records_few : (time : ℕ) (trace : List (Record (List ℕ))) (came transmission : Option (ℕ × List ℕ)) → length (trace ++ (in_record time came ++ out_record time transmission)) ≤ length trace + 2
records_few time trace came transmission =
    let a = length-append trace (in_record time came ++ out_record time transmission) in
    let b = length-append (in_record time came) (out_record time transmission) in
    let c = in_one came in
    let d = out_one transmission in
    omega (arith, a, b, c, d)
  where
    in_one : (o : Option (ℕ × List ℕ)) → length (in_record time o) ≤ 1
    in_one None = omega arith
    in_one (Some z) = omega arith

    out_one : (o : Option (ℕ × List ℕ)) → length (out_record time o) ≤ 1
    out_one None = omega arith
    out_one (Some z) = omega arith

-- an event that is under way is done with the transmission that starts
pub represents_after : {L : Type 0} (pending : L → FinMap key_cmp (Event (List ℕ))) (t : TopologyValue) (time : ℕ) (start : Option (ℕ × Start)) (doing : Doing) (p q : PartValue L)
    → IsInOrder t.nodes t.ifaces t.links → IsOrderly (net_of t) (here_of t doing.part) (step (net_of t) (here_of t doing.part) doing.state)
    → IsUnderWay pending t time start doing p → q.part ≡ p.part → q.devices ≡ p.devices
    → TimelineRepresents t q.timeline (sent_after (net_of t) time doing.state.sent (transmission_of start))
    → OutgoingRepresents t doing.part q.outgoing (sent_after (net_of t) time doing.state.sent (transmission_of start))
    → pending q.timeline.events ≡ schedule (here_of t doing.part) (transmission_events (net_of t) time doing.state.sent (transmission_of start)) (pending p.timeline.events)
    → ((trace : List (Record (List ℕ))) → RecordsRepresent t p.records trace → RecordsRepresent t q.records (trace ++ out_record time (transmission_of start)))
    → q.records.keeping ≡ p.records.keeping → q.steps ≡ p.steps + 1
    → RepresentsNext pending t doing.part q doing.state
represents_after pending t time start doing p q order orderly way is_part devices numbered outgoing events records keeping steps =
    let s = doing.state in
    let part = doing.part in
    let number = doing.number in
    let e = doing.event in
    let taken = way.taken in
    let does = way.does.does in
    let here = here_of t part in
    let m : Effect (List ℕ) NodeStateValue = effect (net_of t) s.node s.port time number e in
    let there = least_has s.pending (keyed time number e) taken.first in
    let place : IsPlaceIn t (event_place e) = taken.placed (key_of time (event_place e) number) e there in
    let is : here_of t part (event_place e) ≡ true = pending_here t part s taken.orderly (key_of time (event_place e) number) e there in
    let goes_on = subst (λ o. IfSome o (λ f. here_of t part (Fire f.0) ≡ true)) (sym does.follows) (follows_at (net_of t) s.node s.port time number (λ q. here_of t part q ≡ true) e is) in
    let goes_within = follows_at (net_of t) s.node s.port time number (IsPlaceIn t) e place in
    let events' : pending q.timeline.events ≡ schedule (here_of t part) (transmission_events (net_of t) time s.sent m.transmission ++ next_events number m.follows) (remove s.pending (key_of time (event_place e) number))
    = events ∙ ap (schedule (here_of t part) (transmission_events (net_of t) time s.sent (transmission_of start))) (taken.events ∙ next_here (here_of t part) number doing.follows (remove s.pending (key_of time (event_place e) number)) goes_on)
    ∙ (λ i. schedule (here_of t part) (transmission_events (net_of t) time s.sent (does.transmission i)) (schedule (here_of t part) (next_events number (does.follows i)) (remove s.pending (key_of time (event_place e) number))))
    ∙ sym (schedule_append (here_of t part) (transmission_events (net_of t) time s.sent m.transmission) (next_events number m.follows) (remove s.pending (key_of time (event_place e) number))) in
    let records' : RecordsRepresent t q.records (s.records ++ (in_record time m.came ++ out_record time m.transmission))
    = subst (RecordsRepresent t q.records)
    ((λ i. (s.records ++ in_record time (does.came i)) ++ out_record time (does.transmission i)) ∙ append_assoc s.records (in_record time m.came) (out_record time m.transmission))
    (records (s.records ++ in_record time doing.came) taken.records) in
    let within = subst (λ o. IfSome o (λ z. z.0 < length t.ifaces)) does.transmission (transmits_within t part time start does.transmits) in
    let again : step_at (net_of t) (here_of t part) s (Some (keyed time number e)) ≡ step (net_of t) (here_of t part) s = ap (step_at (net_of t) (here_of t part) s) (sym taken.first) in
    subst (Represents pending t part q) again record {
      is_part = is_part ∙ taken.is_part;
      orderly = subst (IsOrderly (net_of t) (here_of t part)) (sym again) orderly;
      devices = subst (DevicesRepresent t (states_after t (states_in part s) (keyed time number e))) (sym devices) way.does.represented;
      numbered = subst (λ o. TimelineRepresents t q.timeline (sent_after (net_of t) time s.sent o)) does.transmission numbered;
      outgoing = subst (λ o. OutgoingRepresents t part q.outgoing (sent_after (net_of t) time s.sent o)) does.transmission outgoing;
      few = λ c. let f = one_more t time p.steps s.sent m.transmission taken.few c in omega (arith, f, steps);
      events = events';
      placed = placed_schedule (IsPlaceIn t) (here_of t part) (transmission_events (net_of t) time s.sent m.transmission ++ next_events number m.follows) (remove s.pending (key_of time (event_place e) number))
          (either (transmission_events (net_of t) time s.sent m.transmission) (next_events number m.follows)
          (placed_transmission t order time s.sent m.transmission within) (placed_next (IsPlaceIn t) number m.follows goes_within))
          (placed_remove (IsPlaceIn t) s.pending (key_of time (event_place e) number) taken.placed);
      records = records';
      few_records = let f = taken.few_records in let n = records_few time s.records m.came m.transmission in omega (arith, f, n, steps);
      wanted = ap (λ d. d.wanted) devices ∙ taken.wanted ∙ ap (λ k. k.wanted) (sym keeping);
    }
  where
    either : (xs ys : List (Key × Event (List ℕ))) → ((i : ℕ) (f : Key × Event (List ℕ)) → nth xs i ≡ Some f → IsPlaceIn t f.0.place)
        → ((i : ℕ) (f : Key × Event (List ℕ)) → nth ys i ≡ Some f → IsPlaceIn t f.0.place)
        → (i : ℕ) (f : Key × Event (List ℕ)) → nth (xs ++ ys) i ≡ Some f → IsPlaceIn t f.0.place
    either [] ys h k i f z = k i f z
    either (x ∷ xs) ys h k zero f z = h zero f z
    either (x ∷ xs) ys h k (suc i) f z = either xs ys (λ j. h (suc j)) k i f z

-- an event that was taken out is put back
pub represents_again : {L : Type 0} (pending : L → FinMap key_cmp (Event (List ℕ))) (t : TopologyValue) (part : Option ℕ) (entry : Key × Event (List ℕ)) (p q : PartValue L) → Kept p q
    → (s : State (List ℕ) NodeStateValue) → IsReady pending t part entry p s
    → q.devices ≡ p.devices → q.records ≡ p.records → pending q.timeline.events ≡ insert (pending p.timeline.events) (key_of entry.0.time (event_place entry.1) entry.0.number) entry.1 → Represents pending t part q s
represents_again pending t part entry p q kept s ready devices records events =
    let h = ready.taken in
    let key = key_of entry.0.time (event_place entry.1) entry.0.number in
    record {
      is_part = kept.is_part ∙ h.is_part;
      orderly = h.orderly;
      devices = subst (DevicesRepresent t (states_in part s)) (sym devices) ready.devices;
      numbered = numbered_same t p.timeline q.timeline s.sent kept.sent h.numbered;
      outgoing = subst (λ o. OutgoingRepresents t part o s.sent) (sym kept.outgoing) h.outgoing;
      few = λ c. let l = h.few c in omega (arith, l, kept.steps);
      events = events ∙ ap (λ m. insert m key entry.1) h.events ∙ put_back s.pending key entry.1 (least_has s.pending (keyed entry.0.time entry.0.number entry.1) h.first);
      placed = h.placed;
      records = subst (λ (r : RecordsValue). RecordsRepresent t r s.records) (sym records) (subst (RecordsRepresent t p.records) (append-nil s.records) h.records);
      few_records = let l = h.few_records in omega (arith, l, kept.steps);
      wanted = kept.wanted ∙ h.wanted ∙ ap (λ k. k.wanted) (sym kept.keeping);
    }

module _ (t : TopologyValue) (i : ℕ) (port : Port (List ℕ)) where
  port_same : (here : Bool) (v w : Option PortValue) → IsSamePort v w → IsThere here (λ z. IsPortOf t i z port) v → IsThere here (λ z. IsPortOf t i z port) w
  port_same true None None e h = h
  port_same true None (Some w) e h = absurd e
  port_same true (Some v) None e h = absurd e
  port_same true (Some v) (Some w) e h = record {
    limit = ap (λ z. z.limit) e ∙ h.limit;
    rate = ap (λ z. z.rate) e ∙ h.rate;
    delay = ap (λ z. z.delay) e ∙ h.delay;
    busy = ap (λ z. z.busy) e ∙ h.busy;
    dropped = ap (λ z. z.dropped) e ∙ h.dropped;
  }
  port_same false None None e h = refl
  port_same false None (Some w) e h = absurd e
  port_same false (Some v) None e h = absurd e
  port_same false (Some v) (Some w) e h = absurd (not_some v (sym h))

represented_same : (t : TopologyValue) (states : DeviceStates) (d e : DevicesValue) → DevicesRepresent t states d → IsSame d e → DevicesRepresent t states e
represented_same t states d e s h = record {
  node_count = ap length h.nodes ∙ s.node_count;
  nodes = subst (λ l. AllHere (is_node_here t states.part) (λ v n. IsNodeOf t v n (states.node v)) l) (sym h.nodes) s.nodes;
  port_count = h.port_count ∙ s.port_count;
  ports = λ i w e. let v = h.ports i w e in port_same t i (states.port i) (is_iface_here t states.part i) v.0 w v.2 (s.ports i v.0 v.1);
  source_count = ap length h.sources ∙ s.source_count;
  sources = subst (λ l. AllHere (is_source_here t states.part) (λ j z. source_of t j ≡ Some z) l) (sym h.sources) s.sources;
}

-- memory that was made changes nothing
pub represents_same : {L : Type 0} (pending : L → FinMap key_cmp (Event (List ℕ))) (t : TopologyValue) (part : Option ℕ) (p q : PartValue L) (s : State (List ℕ) NodeStateValue)
    → Represents pending t part p s → q.part ≡ p.part → IsSame p.devices q.devices → pending q.timeline.events ≡ pending p.timeline.events → q.timeline.sent ≡ p.timeline.sent
    → length q.outgoing.channels ≡ length p.outgoing.channels → ((c : ℕ) → messages_in (slice_get q.outgoing.channels c) ≡ messages_in (slice_get p.outgoing.channels c))
    → q.records ≡ record p.records { spare = q.records.spare } → q.steps ≡ p.steps → Represents pending t part q s
represents_same pending t part p q s h is_part same events sent count messages records steps = record {
  is_part = is_part ∙ h.is_part;
  orderly = h.orderly;
  devices = represented_same t (states_in part s) p.devices q.devices h.devices same;
  numbered = numbered_same t p.timeline q.timeline s.sent sent h.numbered;
  outgoing = outgoing_same t part p.outgoing q.outgoing s.sent count messages h.outgoing;
  few = λ c. let l = h.few c in omega (arith, l, steps);
  events = events ∙ h.events;
  placed = h.placed;
  records = records_same t p.records q.records s.records records h.records;
  few_records = let l = h.few_records in omega (arith, l, steps);
  wanted = same.wanted ∙ h.wanted ∙ ap (λ (r : RecordsValue). r.keeping.wanted) (sym records);
}

-- nothing changed
pub is_same : (d : DevicesValue) → IsSame d d
is_same d = record { nodes = refl; port_count = refl; ports = λ i w e. (w, e, same w); sources = refl; wanted = refl }
  where
    same : (w : Option PortValue) → IsSamePort w w
    same None = tt
    same (Some w) = refl

-- a message was put into the event list
pub represents_told : {L : Type 0} (pending : L → FinMap key_cmp (Event (List ℕ))) (t : TopologyValue) (part : Option ℕ) (i number time : ℕ) (x : List ℕ) (p q : PartValue L) → Kept p q
    → (s : State (List ℕ) NodeStateValue) → Represents pending t part p s → IsOrderly (net_of t) (here_of t part) (with_arrival i number time x s) → i < length t.ifaces
    → q.devices ≡ p.devices → q.records ≡ p.records → pending q.timeline.events ≡ insert (pending p.timeline.events) (key_of time (Arrive i) number) (Delivery (Arrival i) x)
    → Represents pending t part q (with_arrival i number time x s)
represents_told pending t part i number time x p q kept s h orderly within devices records events = record {
  is_part = kept.is_part ∙ h.is_part;
  orderly = orderly;
  devices = subst (λ d. DevicesRepresent t (states_in part s) d) (sym devices) h.devices;
  numbered = numbered_same t p.timeline q.timeline s.sent kept.sent h.numbered;
  outgoing = subst (λ o. OutgoingRepresents t part o s.sent) (sym kept.outgoing) h.outgoing;
  few = λ c. let l = h.few c in omega (arith, l, kept.steps);
  events = events ∙ ap (λ m. insert m (key_of time (Arrive i) number) (Delivery (Arrival i) x)) h.events;
  placed = placed_insert (IsPlaceIn t) s.pending (key_of time (Arrive i) number) (Delivery (Arrival i) x) within h.placed;
  records = subst (λ (r : RecordsValue). RecordsRepresent t r s.records) (sym records) h.records;
  few_records = let l = h.few_records in omega (arith, l, kept.steps);
  wanted = kept.wanted ∙ h.wanted ∙ ap (λ k. k.wanted) (sym kept.keeping);
}

-- what comes into a partition is here, and its far end is not
pub comes_here : (t : TopologyValue) (part : Option ℕ) (p i : ℕ) → part ≡ Some p → comes_in (net_of t) p i ≡ true
    → (here_of t part (Arrive i) ≡ true) × (here_of t part (Arrive ((net_of t).far_end i)) ≡ false)
comes_here t None p i e h = absurd (not_some p e)
comes_here t (Some r) p i e h =
    let same : r ≡ p = some_inj r p e in
    let both = halves ((net_of t).part ((net_of t).owner i) == p) ((net_of t).part ((net_of t).owner ((net_of t).far_end i)) == p) h in (
      ap (λ z. (net_of t).part ((net_of t).owner i) == z) same ∙ both.0,
      ap (λ z. (net_of t).part ((net_of t).owner ((net_of t).far_end i)) == z) same ∙ both.1,
    )
  where
    halves : (a b : Bool) → (a && not b) ≡ true → (a ≡ true) × (b ≡ false)
    halves true true k = absurd (true≢false (sym k))
    halves true false k = (refl, refl)
    halves false b k = absurd (true≢false (sym k))

-- the event that is due
pub due_entry : (before : ℕ) (o : Option (Key × Event (List ℕ))) → is_before before o ≡ true → (e : Key × Event (List ℕ)) × (o ≡ Some e) × (e.0.time < before)
due_entry before None h = absurd (true≢false (sym h))
due_entry before (Some e) h = (e, refl, grind (arith, nat_tests, h))

-- what a table has where it is here
here_value : {X Y : Type 0} (P : X → Type 0) (f : X → Y) (y : Y) → ((x : X) → P x → f x ≡ y) → (b : Bool) (o : Option X) → IsThere b P o → option_map f o ≡ cond b (Some y) None
here_value P f y h true None p = absurd p
here_value P f y h true (Some x) p = ap Some (h x p)
here_value P f y h false o p = ap (option_map f) p

table_value : {X Y : Type 0} (here : ℕ → Bool) (P : ℕ → X → Type 0) (xs : List (Option X)) (f : X → Y) (y : Y) (i n : ℕ) → AllHere here P xs → length xs ≡ n
    → ((x : X) → P i x → f x ≡ y) → option_and_then (option_map f) (slice_get xs i) ≡ cond (ltb i n && here i) (Some y) None
table_value here P xs f y i n all count h = ⊎_elim
    (λ g. let lt : ltb i n ≡ true = grind (arith, nat_tests, g.1, count) in
    ap (option_and_then (option_map f)) g.2 ∙ here_value (P i) f y h (here i) g.0 (all i g.0 g.2)
    ∙ sym (ap (λ b. cond (b && here i) (Some y) None) lt))
    (λ g. let ge : ltb i n ≡ false = grind (arith, nat_tests, g.0, count) in
    ap (option_and_then (option_map f)) (slice_get_past xs i g.0)
    ∙ sym (ap (λ b. cond (b && here i) (Some y) None) ge))
    ((slice_get_cases xs i).1)

pub counter_is : (t : TopologyValue) (part : Option ℕ) (d : DevicesValue) (s : State (List ℕ) NodeStateValue) → DevicesRepresent t (states_in part s) d → (v : ℕ) (c : Counter)
    → option_and_then (option_map (λ n. slice_index n.counters (counter_number c))) (slice_get d.nodes v) ≡ count_at t part s v c
counter_is t part d s represented v c =
    table_value (is_node_here t part) (λ v n. IsNodeOf t v n (s.node v)) d.nodes (λ n. slice_index n.counters (counter_number c)) (slice_index (s.node v).counters (counter_number c)) v (length t.nodes)
    represented.nodes represented.node_count (λ n p. ap (λ z. slice_index z.counters (counter_number c)) p.0)

pub drops_is : (t : TopologyValue) (part : Option ℕ) (d : DevicesValue) (s : State (List ℕ) NodeStateValue) → DevicesRepresent t (states_in part s) d → (i : ℕ)
    → option_and_then (option_map (λ w. w.dropped)) (slice_get d.ports i) ≡ drops_at t part s i
drops_is t part d s represented i =
    table_value (is_iface_here t part) (λ i w. IsPortOf t i w (s.port i)) d.ports (λ w. w.dropped) (saturated (s.port i).dropped) i (length t.ifaces)
    represented.ports represented.port_count (λ w p. p.dropped)

pub waiting_is : (amount : List (List ℕ) → ℕ) (t : TopologyValue) (part : Option ℕ) (d : DevicesValue) (s : State (List ℕ) NodeStateValue) → DevicesRepresent t (states_in part s) d → (i : ℕ)
    → option_and_then (option_map (λ w. amount (waiting_of w.busy))) (slice_get d.ports i) ≡ waiting_at amount t part s i
waiting_is amount t part d s represented i =
    table_value (is_iface_here t part) (λ i w. IsPortOf t i w (s.port i)) d.ports (λ w. amount (waiting_of w.busy)) (amount (waiting_of (s.port i).busy)) i (length t.ifaces)
    represented.ports represented.port_count (λ w p. ap (λ b. amount (waiting_of b)) p.busy)

-- the same state is represented with other records that represent its trace
pub represents_records : {L : Type 0} (pending : L → FinMap key_cmp (Event (List ℕ))) (t : TopologyValue) (part : Option ℕ) {p : PartValue L} (r : RecordsValue) (s : State (List ℕ) NodeStateValue)
    → Represents pending t part p s → RecordsRepresent t r s.records → r.keeping.wanted ≡ p.records.keeping.wanted → Represents pending t part (record p { records = r }) s
represents_records pending t part r s h records wanted = record {
  is_part = h.is_part;
  orderly = h.orderly;
  devices = h.devices;
  numbered = h.numbered;
  outgoing = h.outgoing;
  few = h.few;
  events = h.events;
  placed = h.placed;
  records = records;
  few_records = h.few_records;
  wanted = h.wanted ∙ sym wanted;
}

-- the records that were kept are few
pub kept_few : {L : Type 0} (pending : L → FinMap key_cmp (Event (List ℕ))) (t : TopologyValue) (part : Option ℕ) (p : PartValue L) (s : State (List ℕ) NodeStateValue)
    → Represents pending t part p s → p.records.keeping.handed + length p.records.kept ≤ 2 * p.steps
kept_few pending t part p s h =
    let own = cut p.records.keeping.wanted s.records in
    let all = rest_is_all p.records.keeping.handed own h.records.few in
    let kept = ap length h.records.kept in
    let few = length-cut p.records.keeping.wanted s.records in
    let most = h.few_records in
    omega (arith, all, kept, few, most)

-- an interface that isn't there is its own far end
far_past : (t : TopologyValue) (i : ℕ) → length t.ifaces ≤ i → (net_of t).far_end i ≡ i
unfolding net_of
far_past t i h = ap (λ o. (far_from i o).iface) (slice_get_past t.ifaces i h)

-- past the last channel no interface sends
pub busy_past : (t : TopologyValue) (part : Option ℕ) (s : State (List ℕ) NodeStateValue) (c : ℕ) → length t.ifaces ≤ receiving_iface t c → busy_at t part s c ≡ 0
busy_past t part s c h =
    let far = far_past t (receiving_iface t c) h in
    let i = (net_of t).far_end (receiving_iface t c) in
    let none : ltb i (length t.ifaces) ≡ false = grind (arith, nat_tests, far, h) in
    ap (λ b. cond (b && is_iface_here t part i) (completes_at (s.port i).busy) 0) none

-- when the interface that sends on a channel completes its transmission
pub busy_is : (t : TopologyValue) (part : Option ℕ) (d : DevicesValue) (s : State (List ℕ) NodeStateValue) → DevicesRepresent t (states_in part s) d → (i : ℕ)
    → completes_at (option_and_then (option_and_then (λ w. w.busy)) (slice_get d.ports i))
    ≡ cond (ltb i (length t.ifaces) && is_iface_here t part i) (completes_at (s.port i).busy) 0
busy_is t part d s represented i = ⊎_elim
    (λ g. let lt : ltb i (length t.ifaces) ≡ true = grind (arith, nat_tests, g.1, represented.port_count) in
    ap (λ o. completes_at (option_and_then (option_and_then (λ w. w.busy)) o)) g.2 ∙ go (is_iface_here t part i) g.0 (represented.ports i g.0 g.2)
    ∙ sym (ap (λ b. cond (b && is_iface_here t part i) (completes_at (s.port i).busy) 0) lt))
    (λ g. let ge : ltb i (length t.ifaces) ≡ false = grind (arith, nat_tests, g.0, represented.port_count) in
    ap (λ o. completes_at (option_and_then (option_and_then (λ w. w.busy)) o)) (slice_get_past d.ports i g.0)
    ∙ sym (ap (λ b. cond (b && is_iface_here t part i) (completes_at (s.port i).busy) 0) ge))
    ((slice_get_cases d.ports i).1)
  where
    go : (b : Bool) (o : Option PortValue) → IsThere b (λ w. IsPortOf t i w (s.port i)) o → completes_at (option_and_then (λ w. w.busy) o) ≡ cond b (completes_at (s.port i).busy) 0
    go true None h = absurd h
    go true (Some w) h = ap completes_at h.busy
    go false o h = ap (λ o. completes_at (option_and_then (λ w. w.busy) o)) h
