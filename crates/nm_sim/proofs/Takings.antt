-- An event is taken out of a part, and goes on.
use Rattle.std.specs.declared.alloc.AllocError.{AllocError}
use Rattle.std.specs.Result.{IfOk, OnErr, OnOk}
use Rattle.std.specs.Bool.{if◌then◌else◌}
use Rattle.nm_forward.specs.declared.counter.Counter.{Counter}
use Rattle.std.proofs.Common.{Bool, true, false, true≢false, Result, Ok, Err, ◌+◌, ◌≤◌, ◌^◌, ◌≡◌, ◌≢◌, ℕ, suc, ◌<◌, ◌++◌, List, [], Option, Some, None, refl, sym, ap, ◌∙◌, subst, arith, append-nil}
use Rattle.std.specs.FinMap.{FinMap, get, remove}
use Rattle.nm_base.specs.declared.event.Event.{Event}
use Rattle.nm_base.specs.declared.event.Event.TheVariants.{Delivery}
use Rattle.nm_base.specs.declared.event.Origin.TheVariants.{Arrival, Source}
use Rattle.nm_base.specs.declared.key.Key.{Key}
use Rattle.nm_base.specs.declared.limits.TheConstants.{MAX_TIME}
use Rattle.nm_base.specs.Event.{event_place}
use Rattle.nm_base.specs.Key.{key_cmp, key_of}
use Rattle.nm_topology.specs.TopologyValue.{TopologyValue}
use Rattle.nm_model.specs.EventList.{least, schedule}
use Rattle.nm_model.specs.Lists.{nth}
use Rattle.nm_model.specs.Offers.{offering_in, offering_of}
use Rattle.nm_model.specs.Run.{Effect, State, by_source, effect, in_record, keyed, made, next_events, transmission_events}
use Rattle.nm_forward.specs.State.{NodeStateValue}
use Rattle.nm_forward.specs.Reaction.{reaction}
use Rattle.nm_forward.specs.declared.reaction.Reaction.{Reaction}
use Rattle.nm_iface.specs.declared.port.Start.{Start}
use Rattle.nm_traffic.specs.Source.{source_at}
use Rattle.nm_sim.specs.Effects.{ReactsWith, Sends, states_reacted, transmission_of}
use Rattle.nm_sim.specs.Network.{net_of}
use Rattle.nm_sim.specs.Outgoing.{OutgoingRepresents}
use Rattle.nm_sim.specs.Records.{RecordsRepresent, RecordsValue}
use Rattle.nm_base.specs.declared.record.Record.{Record}
use Rattle.nm_sim.specs.Devices.{DevicesValue}
use Rattle.nm_sim.specs.Told.{Happens, HappensNext, octets_of_start, started_octets}
use Rattle.nm_sim.specs.declared.sending.Sending.{Sending}
use Rattle.nm_sim.specs.declared.told.Happened.{Happened}
use Rattle.nm_sim.specs.declared.told.Started.{Started}
use Rattle.nm_sim.specs.Part.{Doing, HasHappened, HasMemory, HasReacted, IsReady, IsUnderWay, PartValue, Performed, Represents, RepresentsNext, IsTaken, states_in, to_do}
use Rattle.nm_sim.specs.Timelines.{AreFresh, TimelineValue, everywhere}
use Rattle.nm_sim.proofs.Beginnings.{numbered_same}
use Rattle.nm_sim.proofs.Kept.{Kept}
use Rattle.nm_sim.proofs.Doings.{arrives_by, fires_by, follows_is}
use Rattle.nm_sim.proofs.Schedules.{first_fresh, second_fresh}
use Rattle.nm_model.proofs.ListLemmas.{some_inj}
use Rattle.nm_model.proofs.Keys.{remove_same}

module _ {L : Type 0} (pending : L → FinMap key_cmp (Event (List ℕ))) (t : TopologyValue) (part : Option ℕ) (entry : Key × Event (List ℕ)) (p q : PartValue L) (kept : Kept p q)
    (s : State (List ℕ) NodeStateValue) where
  pub taken_out : Represents pending t part p s → Some (keyed entry.0.time entry.0.number entry.1) ≡ least (pending p.timeline.events)
      → pending q.timeline.events ≡ remove (pending p.timeline.events) (key_of entry.0.time (event_place entry.1) entry.0.number)
      → q.records ≡ p.records → IsTaken pending t entry.0.time (to_do part entry s) q
  taken_out h first events records = record {
    first = ap (λ m. least m) (sym h.events) ∙ sym first;
    is_part = kept.is_part ∙ h.is_part;
    orderly = h.orderly;
    numbered = numbered_same t p.timeline q.timeline s.sent kept.sent h.numbered;
    outgoing = subst (λ o. OutgoingRepresents t part o s.sent) (sym kept.outgoing) h.outgoing;
    few = λ c. let l = h.few c in omega (arith, l, kept.steps);
    events = events ∙ ap (λ m. remove m (key_of entry.0.time (event_place entry.1) entry.0.number)) h.events;
    placed = h.placed;
    records = subst (λ (r : RecordsValue). RecordsRepresent t r (s.records ++ [])) (sym records) (subst (RecordsRepresent t p.records) (sym (append-nil s.records)) h.records);
    few_records = let l = h.few_records in omega (arith, l, kept.steps);
    wanted = kept.wanted ∙ h.wanted ∙ ap (λ k. k.wanted) (sym kept.keeping);
  }

module _ {L : Type 0} (pending : L → FinMap key_cmp (Event (List ℕ))) (t : TopologyValue) (time : ℕ) (doing : Doing) (p q : PartValue L) (kept : Kept p q) where
  -- it goes on: what came is recorded, and what follows is pending
  pub taken_on : (came : Option (ℕ × List ℕ)) (follows : Option (ℕ × ℕ × List ℕ)) → IsTaken pending t time doing p
      → pending q.timeline.events ≡ schedule everywhere (next_events doing.number follows) (remove doing.state.pending (key_of time (event_place doing.event) doing.number))
      → RecordsRepresent t q.records (doing.state.records ++ in_record time came) → IsTaken pending t time (record doing { came = came; follows = follows }) q
  taken_on came follows h events records = record {
    first = h.first;
    is_part = kept.is_part ∙ h.is_part;
    orderly = h.orderly;
    numbered = numbered_same t p.timeline q.timeline doing.state.sent kept.sent h.numbered;
    outgoing = subst (λ o. OutgoingRepresents t doing.part o doing.state.sent) (sym kept.outgoing) h.outgoing;
    few = λ c. let l = h.few c in omega (arith, l, kept.steps);
    events = events;
    placed = h.placed;
    records = records;
    few_records = let l = h.few_records in omega (arith, l, kept.steps);
    wanted = kept.wanted ∙ h.wanted ∙ ap (λ k. k.wanted) (sym kept.keeping);
  }

  -- its devices change
  pub taken_same : IsTaken pending t time doing p → pending q.timeline.events ≡ pending p.timeline.events → q.records ≡ p.records → IsTaken pending t time doing q
  taken_same h events records =
      taken_on doing.came doing.follows h (events ∙ h.events) (subst (λ (r : RecordsValue). RecordsRepresent t r (doing.state.records ++ in_record time doing.came)) (sym records) h.records)

module _ {L : Type 0} (pending : L → FinMap key_cmp (Event (List ℕ))) (t : TopologyValue) (part : Option ℕ) (entry : Key × Event (List ℕ)) (p q : PartValue L) (kept : Kept p q)
    (s : State (List ℕ) NodeStateValue) (taken : IsTaken pending t entry.0.time (to_do part entry s) p) where
  -- a packet came with it
  pub taken_came : (came : Option (ℕ × List ℕ)) → pending q.timeline.events ≡ pending p.timeline.events
      → ((trace : List (Record (List ℕ))) → RecordsRepresent t p.records trace → RecordsRepresent t q.records (trace ++ in_record entry.0.time came))
      → IsTaken pending t entry.0.time (record (to_do part entry s) { came = came }) q
  taken_came came events records =
      taken_on pending t entry.0.time (to_do part entry s) p q kept came None taken (events ∙ taken.events) (records s.records (subst (RecordsRepresent t p.records) (append-nil s.records) taken.records))

  -- another follows at its source
  pub taken_follows : (follows : Option (ℕ × ℕ × List ℕ)) → pending q.timeline.events ≡ schedule everywhere (next_events entry.0.number follows) (pending p.timeline.events)
      → q.records ≡ p.records → IsTaken pending t entry.0.time (record (to_do part entry s) { follows = follows }) q
  taken_follows follows events records =
      taken_on pending t entry.0.time (to_do part entry s) p q kept None follows taken (events ∙ ap (schedule everywhere (next_events entry.0.number follows)) taken.events)
      (subst (λ (r : RecordsValue). RecordsRepresent t r (s.records ++ [])) (sym records) taken.records)

module _ {L : Type 0} (pending : L → FinMap key_cmp (Event (List ℕ))) (t : TopologyValue) (part : Option ℕ) (entry : Key × Event (List ℕ)) (p : PartValue L) (s : State (List ℕ) NodeStateValue)
    (ready : IsReady pending t part entry p s) where
  -- its key is free
  pub key_is_free : get (pending p.timeline.events) (key_of entry.0.time (event_place entry.1) entry.0.number) ≡ None
  key_is_free = ap (λ m. get m (key_of entry.0.time (event_place entry.1) entry.0.number)) ready.taken.events ∙ remove_same s.pending (key_of entry.0.time (event_place entry.1) entry.0.number)

module _ {L : Type 0} (pending : L → FinMap key_cmp (Event (List ℕ))) (t : TopologyValue) (time : ℕ) (doing : Doing) (p : PartValue L) (taken : IsTaken pending t time doing p) where
  abbrev does_at : Effect (List ℕ) NodeStateValue
  does_at = effect (net_of t) doing.state.node doing.state.port time doing.number doing.event

  abbrev rest : FinMap key_cmp (Event (List ℕ))
  rest = remove doing.state.pending (key_of time (event_place doing.event) doing.number)

  module _ (follows : Option (ℕ × ℕ × List ℕ)) (same : follows ≡ does_at.follows)
      (fresh : (m : ℕ) (f : Key × Event (List ℕ)) → nth (made (net_of t) doing.state (keyed time doing.number doing.event)) m ≡ Some f → get rest f.0 ≡ None)
      (apart : (m n : ℕ) (f g : Key × Event (List ℕ)) → m < n → nth (made (net_of t) doing.state (keyed time doing.number doing.event)) m ≡ Some f
      → nth (made (net_of t) doing.state (keyed time doing.number doing.event)) n ≡ Some g → f.0 ≢ g.0) where
    -- the source's next event is new
    pub follows_fresh : doing.follows ≡ None → AreFresh (pending p.timeline.events) (next_events doing.number follows)
    follows_fresh none = subst (λ m. AreFresh m (next_events doing.number follows)) (sym (taken.events ∙ ap (λ o. schedule everywhere (next_events doing.number o) rest) none))
        (subst (λ o. AreFresh rest (next_events doing.number o)) (sym same)
        (second_fresh rest (transmission_events (net_of t) time doing.state.sent does_at.transmission) doing.number does_at.follows fresh apart))

    -- and then those of the transmission that starts
    pub transmission_fresh : (start : Option (ℕ × Start)) → transmission_of start ≡ does_at.transmission → follows ≡ doing.follows
        → AreFresh (pending p.timeline.events) (transmission_events (net_of t) time doing.state.sent (transmission_of start))
    transmission_fresh start transmits is = subst (λ m. AreFresh m (transmission_events (net_of t) time doing.state.sent (transmission_of start))) (sym taken.events)
        (subst (λ (o : Option (ℕ × List ℕ) × Option (ℕ × ℕ × List ℕ)). AreFresh (schedule everywhere (next_events doing.number o.1) rest)
        (transmission_events (net_of t) time doing.state.sent o.0)) (sym (λ i. (transmits i, (sym is ∙ same) i)))
        (first_fresh rest (transmission_events (net_of t) time doing.state.sent does_at.transmission) doing.number does_at.follows fresh apart))

-- what follows when source j hands a packet over
pub fires_next : (t : TopologyValue) (s : State (List ℕ) NodeStateValue) (time j number : ℕ) (x : List ℕ)
    → by_source j (source_at t j (suc number)) ≡ (effect (net_of t) s.node s.port time number (Delivery (Source j) x)).follows
unfolding net_of
fires_next t s time j number x =
    let v = (net_of t).source_node j in
    sym (follows_is (net_of t) s.port time None (reaction t v (s.node v) (Source j) x).0 (by_source j (source_at t j (suc number))) (reaction t v (s.node v) (Source j) x).1)

-- what a node sends is what its reaction sends
arrives_offering : (t : TopologyValue) (s : State (List ℕ) NodeStateValue) (i : ℕ) (x : List ℕ) (sent : Option (ℕ × List ℕ))
    → sent ≡ (reaction t ((net_of t).owner i) (s.node ((net_of t).owner i)) (Arrival i) x).1
    → offering_of (net_of t) s.port sent ≡ offering_in (net_of t) s.node s.port (Delivery (Arrival i) x)
unfolding net_of
arrives_offering t s i x sent is = ap (offering_of (net_of t) s.port) is

fires_offering : (t : TopologyValue) (s : State (List ℕ) NodeStateValue) (j : ℕ) (x : List ℕ) (sent : Option (ℕ × List ℕ))
    → sent ≡ (reaction t ((net_of t).source_node j) (s.node ((net_of t).source_node j)) (Source j) x).1
    → offering_of (net_of t) s.port sent ≡ offering_in (net_of t) s.node s.port (Delivery (Source j) x)
unfolding net_of
fires_offering t s j x sent is = ap (offering_of (net_of t) s.port) is

module _ {L : Type 0} (pending : L → FinMap key_cmp (Event (List ℕ))) (t : TopologyValue) (part : Option ℕ) (time number : ℕ) (p q : PartValue L) (kept : Kept p q)
    (s : State (List ℕ) NodeStateValue) (x : List ℕ) (r : Reaction) where
  -- a packet arrived, and its node reacted
  pub arrives_on : (i : ℕ) → IsReady pending t part (keyed time number (Delivery (Arrival i) x)) p s
      → ReactsWith t (states_in part s) ((net_of t).owner i) (Arrival i, x) q.devices r
      → pending q.timeline.events ≡ pending p.timeline.events
      → ((trace : List (Record (List ℕ))) → RecordsRepresent t p.records trace → RecordsRepresent t q.records (trace ++ in_record time (Some (i, x))))
      → HasReacted pending t time r (record (to_do part (keyed time number (Delivery (Arrival i) x)) s) { came = Some (i, x) }) q
  arrives_on i ready with_this events records =
      let reacts = with_this.2 in
      record {
        node = (states_reacted t (states_in part s) ((net_of t).owner i) (Arrival i, x)).node;
        sent = with_this.0;
        taken = taken_came pending t part (keyed time number (Delivery (Arrival i) x)) p q kept s ready.taken (Some (i, x)) events records;
        is_sent = with_this.1;
        represented = reacts.represented;
        does = λ d sending o. arrives_by t (states_in part s) time ((net_of t).owner i) i number x q.devices d with_this.0 sending _ refl reacts o refl refl refl;
        offers = arrives_offering t s i x with_this.0 reacts.sends;
      }

  -- a source handed a packet over, and its node reacted
  pub fires_on : (j : ℕ) (follows : Option (ℕ × List ℕ)) → IsReady pending t part (keyed time number (Delivery (Source j) x)) p s
      → ReactsWith t (states_in part s) ((net_of t).source_node j) (Source j, x) q.devices r
      → follows ≡ source_at t j (suc number)
      → pending q.timeline.events ≡ schedule everywhere (next_events number (by_source j follows)) (pending p.timeline.events)
      → q.records ≡ p.records
      → HasReacted pending t time r (record (to_do part (keyed time number (Delivery (Source j) x)) s) { follows = by_source j follows }) q
  fires_on j follows ready with_this next events records =
      let reacts = with_this.2 in
      record {
        node = (states_reacted t (states_in part s) ((net_of t).source_node j) (Source j, x)).node;
        sent = with_this.0;
        taken = taken_follows pending t part (keyed time number (Delivery (Source j) x)) p q kept s ready.taken (by_source j follows) events records;
        is_sent = with_this.1;
        represented = reacts.represented;
        does = λ d sending o. fires_by t (states_in part s) time ((net_of t).source_node j) j number x q.devices d with_this.0 sending _ refl reacts o refl refl (ap (by_source j) next);
        offers = fires_offering t s j x with_this.0 reacts.sends;
      }

-- and what it sends was offered to a port
pub sends_on : {L : Type 0} (pending : L → FinMap key_cmp (Event (List ℕ))) (t : TopologyValue) (time : ℕ) (r : Reaction) (sending : Sending) (doing : Doing) (p q : PartValue L) → Kept p q
    → (h : HasReacted pending t time r doing p) → Sends t (record (states_in doing.part doing.state) { node = h.node }) time h.sent q.devices sending
    → pending q.timeline.events ≡ pending p.timeline.events → q.records ≡ p.records → IsUnderWay pending t time sending.start doing q
sends_on pending t time r sending doing p q kept h o events records = record {
  taken = taken_same pending t time doing p q kept h.taken events records;
  does = h.does q.devices sending o;
}

-- the counter of an arrival is told if its record is not kept
pub is_told : (b : Bool) (k : Counter) → b ≡ false → Some k ≡ (if b then None else Some k)
is_told true k e = absurd (true≢false e)
is_told false k e = refl

pub is_untold : (b : Bool) (k : Counter) → b ≡ true → None ≡ (if b then None else Some k)
is_untold true k e = refl
is_untold false k e = absurd (true≢false (sym e))

pub octets_are : (start : Option (ℕ × Start)) → octets_of_start start ≡ started_octets (transmission_of start)
octets_are None = refl
octets_are (Some s) = refl

-- and this has happened
pub has_happened : {L : Type 0} (pending : L → FinMap key_cmp (Event (List ℕ))) (t : TopologyValue) (time : ℕ) (r : Reaction) (sending : Sending) (doing : Doing) (p : PartValue L) (d : DevicesValue)
    → (h : HasReacted pending t time r doing p) → Sends t (record (states_in doing.part doing.state) { node = h.node }) time h.sent d sending
    → (started : Option Started) → started ≡ octets_of_start sending.start
    → HasHappened t time doing (record { arrived = None; offering = sending.offering; started = started })
has_happened pending t time r sending doing p d h o started is = record {
  arrived = refl;
  offering = o.offered ∙ h.offers;
  started = is ∙ octets_are sending.start ∙ ap started_octets (h.does d sending o).does.transmission;
}

-- the event of the least key comes before the end
pub time_is : {L : Type 0} (pending : L → FinMap key_cmp (Event (List ℕ))) (t : TopologyValue) (part : Option ℕ) (p : PartValue L) (s : State (List ℕ) NodeStateValue)
    → Represents pending t part p s → (time number : ℕ) (e : Event (List ℕ)) → Some (keyed time number e) ≡ least (pending p.timeline.events)
    → (f : Key × Event (List ℕ)) → least s.pending ≡ Some f → f.0.time < t.stop → t.stop ≤ MAX_TIME → time ≤ MAX_TIME
time_is pending t part p s h time number e first f least_is early stop =
    let same : keyed time number e ≡ f = some_inj (keyed time number e) f (first ∙ ap (λ m. least m) h.events ∙ least_is) in
    let at : time ≡ f.0.time = ap (λ (y : Key × Event (List ℕ)). y.0.time) same in
    omega (arith, at, early, stop)

-- it is taken out
pub ready_at : {L : Type 0} (pending : L → FinMap key_cmp (Event (List ℕ))) (t : TopologyValue) (time number : ℕ) (e : Event (List ℕ)) (p : PartValue L) (after : TimelineValue L)
    → Some (keyed time number e) ≡ least (pending p.timeline.events) → pending after.events ≡ remove (pending p.timeline.events) (key_of time (event_place e) number) → after ≡ record p.timeline { events = after.events }
    → time ≤ MAX_TIME → p.steps < 2 ^ 62
    → (part : Option ℕ) (s : State (List ℕ) NodeStateValue) → Represents pending t part p s → IsReady pending t part (keyed time number e) (record p { timeline = after }) s
ready_at pending t time number e p after first rest others soon few part s represents = record {
  taken = taken_out pending t part (keyed time number e) p (record p { timeline = after }) (record { is_part = refl; sent = ap (λ l. l.sent) others; outgoing = refl; steps = refl; wanted = refl; keeping = refl }) s represents first rest refl;
  devices = represents.devices;
  soon = soon;
  steps = few;
}

-- and the memory for all that it may do is still there
pub memory_at : {L : Type 0} (room_of : L → ℕ) (p : PartValue L) (after : TimelineValue L) → HasMemory room_of p → room_of after.events ≡ room_of p.timeline.events + 1 → HasMemory room_of (record p { timeline = after })
memory_at room_of p after memory more = record { ports = memory.ports; room = let r = memory.room in omega (arith, r, more); channels = memory.channels; spare = memory.spare }

module _ {L : Type 0} (pending : L → FinMap key_cmp (Event (List ℕ))) (t : TopologyValue) (entry : Key × Event (List ℕ)) (p q new : PartValue L)
    (ready : (part : Option ℕ) (s : State (List ℕ) NodeStateValue) → Represents pending t part p s → IsReady pending t part entry q s) where
  pub performed_ok : (r : Result Happened AllocError) → Performed pending t entry q new r
      → OnOk r ((part : Option ℕ) (s : State (List ℕ) NodeStateValue) → Represents pending t part p s → RepresentsNext pending t part new s)
  performed_ok (Ok u) h = λ part s z. (h.0 part s (ready part s z)).0
  performed_ok (Err x) h = tt

  -- what happened is what is said
  pub performed_told : (r : Result Happened AllocError) → Performed pending t entry q new r → entry ≡ keyed entry.0.time entry.0.number entry.1
      → IfOk r (λ h. (part : Option ℕ) (s : State (List ℕ) NodeStateValue) → Represents pending t part p s → HappensNext t q.records.keeping.wanted s h)
  performed_told (Ok u) h is = λ part s z e first.
      let same : entry ≡ e = is ∙ some_inj (keyed entry.0.time entry.0.number entry.1) e (sym (ready part s z).taken.first ∙ first) in
      subst (λ y. Happens t q.records.keeping.wanted s y u) same (h.0 part s (ready part s z)).1
  performed_told (Err x) h is = tt

  pub performed_err : (r : Result Happened AllocError) → Performed pending t entry q new r
      → OnErr r ((part : Option ℕ) (s : State (List ℕ) NodeStateValue) → Represents pending t part p s → Represents pending t part new s)
  performed_err (Ok u) h = tt
  performed_err (Err x) h = λ part s z. h.0 part s (ready part s z)

-- how many events were done, and that no record was handed out
pub performed_one : {L : Type 0} (pending : L → FinMap key_cmp (Event (List ℕ))) (t : TopologyValue) (entry : Key × Event (List ℕ)) (q new : PartValue L)
    (r : Result Happened AllocError) → Performed pending t entry q new r
    → OnOk r (new.steps ≡ q.steps + 1) × OnErr r (new.steps ≡ q.steps) × (new.records.keeping ≡ q.records.keeping)
performed_one pending t entry q new (Ok u) h = (h.1, tt, h.2)
performed_one pending t entry q new (Err x) h = (tt, h.1, h.2)
