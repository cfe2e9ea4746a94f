-- What contracts see of a part of a simulation, and what it represents.
use Rattle.std.specs.Prelude.{◌≡◌, ℕ, ◌+◌, ◌*◌, ◌^◌, ◌<◌, ◌≤◌, ◌++◌, Bool, true, false, ltb, ◌&&◌, if◌then◌else◌, slice_index, List, [], length, Option, Some, None, Result, Ok, Err}
use Rattle.std.specs.Option.{option_map}
use Rattle.std.specs.FinMap.{FinMap, get, insert, remove}
use Rattle.std.specs.declared.alloc.AllocError.{AllocError}
use Rattle.nm_base.specs.declared.event.Event.{Event}
use Rattle.nm_base.specs.declared.event.Event.TheVariants.{Delivery}
use Rattle.nm_base.specs.declared.key.Key.{Key}
use Rattle.nm_base.specs.declared.event.Origin.TheVariants.{Arrival}
use Rattle.nm_base.specs.declared.key.Place.TheVariants.{Arrive}
use Rattle.nm_base.specs.Event.{event_place}
use Rattle.nm_base.specs.Key.{key_cmp, key_of}
use Rattle.nm_topology.specs.Topology.{receiving_iface}
use Rattle.nm_topology.specs.TopologyValue.{TopologyValue}
use Rattle.nm_model.specs.EventList.{least, schedule}
use Rattle.nm_model.specs.Orderly.{IsOrderly}
use Rattle.nm_model.specs.Port.{Busy, waiting_of}
use Rattle.nm_model.specs.Offers.{offering_in, offering_of}
use Rattle.nm_model.specs.Run.{State, effect, in_record, keyed, next_events, pends_before, step}
use Rattle.nm_forward.specs.declared.counter.Counter.{Counter}
use Rattle.nm_forward.specs.Counter.{counter_number}
use Rattle.nm_forward.specs.State.{NodeStateValue}
use Rattle.nm_forward.specs.declared.reaction.Reaction.{Reaction}
use Rattle.nm_forward.specs.Reacting.{IsSent}
use Rattle.nm_iface.specs.declared.port.Start.{Start}
use Rattle.nm_base.specs.Count.{saturated}
use Rattle.nm_sim.specs.Network.{here_of, is_iface_here, is_node_here, net_of}
use Rattle.nm_sim.specs.Devices.{DeviceStates, DevicesValue, DevicesRepresent}
use Rattle.nm_sim.specs.Outgoing.{HaveSpare, OutgoingRepresents, OutgoingValue}
use Rattle.nm_sim.specs.Records.{RecordsRepresent, RecordsValue}
use Rattle.nm_sim.specs.Effects.{Does, Done, IsPlaceIn, Sends}
use Rattle.nm_sim.specs.Tables.{AllSome}
use Rattle.nm_sim.specs.Told.{Happens, HappensNext, started_octets}
use Rattle.nm_sim.specs.declared.sending.Sending.{Sending}
use Rattle.nm_sim.specs.declared.told.Happened.{Happened}
use Rattle.nm_sim.specs.declared.told.Told.{Told}
use Rattle.nm_base.specs.declared.limits.TheConstants.{MAX_TIME}
use Rattle.nm_sim.specs.Timelines.{TimelineValue, TimelineRepresents, everywhere}

pub record PartValue (L : Type 0) : Type 0 where
  pub part : Option ℕ
  pub devices : DevicesValue
  pub timeline : TimelineValue L
  pub outgoing : OutgoingValue
  pub records : RecordsValue
  pub steps : ℕ

-- the states of nodes and ports in this state of a run
abbrev pub states_in : Option ℕ → State (List ℕ) NodeStateValue → DeviceStates
states_in part s = record { part = part; node = s.node; port = s.port }

-- the part, whose event list has these pending events, is the whole network (None) or one
-- partition of it, and represents this state of its run
pub record Represents {L : Type 0} (pending : L → FinMap key_cmp (Event (List ℕ)))
    (t : TopologyValue) (part : Option ℕ) (p : PartValue L)
    (s : State (List ℕ) NodeStateValue) : Type 0 where
  pub is_part : p.part ≡ part
  pub orderly : IsOrderly (net_of t) (here_of t part) s
  pub devices : DevicesRepresent t (states_in part s) p.devices
  pub numbered : TimelineRepresents t p.timeline s.sent
  pub outgoing : OutgoingRepresents t part p.outgoing s.sent
  pub few : (c : ℕ) → length (s.sent c) ≤ p.steps
  pub events : pending p.timeline.events ≡ s.pending
  pub placed : (q : Key) (y : Event (List ℕ)) → get s.pending q ≡ Some y → IsPlaceIn t q.place
  pub records : RecordsRepresent t p.records s.records
  pub few_records : length s.records ≤ 2 * p.steps
  pub wanted : p.devices.wanted ≡ p.records.keeping.wanted

-- it represents the state after this one, one event later
abbrev pub RepresentsNext : {L : Type 0} → (L → FinMap key_cmp (Event (List ℕ))) → TopologyValue
    → Option ℕ → PartValue L → State (List ℕ) NodeStateValue → Type 0
RepresentsNext pending t part p s =
    Represents pending t part p (step (net_of t) (here_of t part) s)

-- a fact of each run that the part may be in, on this network: of the part of the network and the
-- state of its run
abbrev pub OfTheRunIn : {L : Type 0} → (L → FinMap key_cmp (Event (List ℕ))) → TopologyValue
    → PartValue L
    → (Option ℕ → State (List ℕ) NodeStateValue → Type 0) → Type 0
OfTheRunIn pending t p Fact = (part : Option ℕ) (s : State (List ℕ) NodeStateValue)
    → Represents pending t part p s → Fact part s

-- the same, of the network too
abbrev pub OfTheRun : {L : Type 0} → (L → FinMap key_cmp (Event (List ℕ))) → PartValue L
    → (TopologyValue → Option ℕ → State (List ℕ) NodeStateValue → Type 0) → Type 0
OfTheRun pending p Fact = (t : TopologyValue) (part : Option ℕ) (s : State (List ℕ) NodeStateValue)
    → Represents pending t part p s → Fact t part s

-- the part is in some run, on this network or on any
abbrev pub IsOfARunIn : {L : Type 0} → (L → FinMap key_cmp (Event (List ℕ))) → TopologyValue
    → PartValue L → Type 0
IsOfARunIn pending t p =
    (part : Option ℕ) × (s : State (List ℕ) NodeStateValue) × Represents pending t part p s

abbrev pub IsOfARun : {L : Type 0} → (L → FinMap key_cmp (Event (List ℕ))) → PartValue L → Type 0
IsOfARun pending p = (t : TopologyValue) × (part : Option ℕ) × (s : State (List ℕ) NodeStateValue)
    × Represents pending t part p s

-- An event that is being done: of which part of the network, the state of its run before it, the
-- event and its number at its place. If a packet came with it, the trace has it, and if another
-- follows at its source, that is pending.
pub record Doing : Type 0 where
  pub part : Option ℕ
  pub state : State (List ℕ) NodeStateValue
  pub number : ℕ
  pub event : Event (List ℕ)
  pub came : Option (ℕ × List ℕ)
  pub follows : Option (ℕ × ℕ × List ℕ)

-- nothing of it is done yet
abbrev pub to_do : Option ℕ → Key × Event (List ℕ) → State (List ℕ) NodeStateValue → Doing
to_do part entry s = record {
  part = part;
  state = s;
  number = entry.0.number;
  event = entry.1;
  came = None;
  follows = None;
}

-- what is done of it in the end, with the transmission that starts, if one does
abbrev pub done_with : Doing → Option (ℕ × Start) → Done
done_with doing start = record {
  came = doing.came;
  transmission = start;
  follows = doing.follows;
}

-- the event was taken out of the part, which represented the state before it
pub record IsTaken {L : Type 0} (pending : L → FinMap key_cmp (Event (List ℕ)))
    (t : TopologyValue) (time : ℕ) (doing : Doing) (p : PartValue L) : Type 0 where
  pub first : least doing.state.pending ≡ Some (keyed time doing.number doing.event)
  pub is_part : p.part ≡ doing.part
  pub orderly : IsOrderly (net_of t) (here_of t doing.part) doing.state
  pub numbered : TimelineRepresents t p.timeline doing.state.sent
  pub outgoing : OutgoingRepresents t doing.part p.outgoing doing.state.sent
  pub few : (c : ℕ) → length (doing.state.sent c) ≤ p.steps
  pub events : pending p.timeline.events
      ≡ schedule everywhere (next_events doing.number doing.follows)
      (remove doing.state.pending (key_of time (event_place doing.event) doing.number))
  pub placed : (q : Key) (y : Event (List ℕ)) → get doing.state.pending q ≡ Some y
      → IsPlaceIn t q.place
  pub records : RecordsRepresent t p.records (doing.state.records ++ in_record time doing.came)
  pub few_records : length doing.state.records ≤ 2 * p.steps
  pub wanted : p.devices.wanted ≡ p.records.keeping.wanted

-- there is memory for all that an event may do
pub record HasMemory {L : Type 0} (room_of : L → ℕ) (p : PartValue L) : Type 0 where
  pub ports : AllSome (λ i w. 1 ≤ w.room) p.devices.ports
  pub room : 3 ≤ room_of p.timeline.events
  pub channels : HaveSpare p.outgoing
  pub spare : 2 ≤ p.records.spare

-- the event of this entry was taken out, in this state of a run, and nothing of it is done
pub record IsReady {L : Type 0} (pending : L → FinMap key_cmp (Event (List ℕ)))
    (t : TopologyValue) (part : Option ℕ) (entry : Key × Event (List ℕ)) (p : PartValue L)
    (s : State (List ℕ) NodeStateValue) : Type 0 where
  pub taken : IsTaken pending t entry.0.time (to_do part entry s) p
  pub devices : DevicesRepresent t (states_in part s) p.devices
  pub soon : entry.0.time ≤ MAX_TIME
  pub steps : p.steps < 2 ^ 62

-- Its node has reacted with this, but what the node sends was not offered to a port yet. Once it
-- is, the event is done.
pub record HasReacted {L : Type 0} (pending : L → FinMap key_cmp (Event (List ℕ)))
    (t : TopologyValue) (time : ℕ) (reaction : Reaction) (doing : Doing)
    (p : PartValue L) : Type 0 where
  pub node : ℕ → NodeStateValue
  pub sent : Option (ℕ × List ℕ)
  pub taken : IsTaken pending t time doing p
  pub is_sent : IsSent p.devices.ports reaction sent
  pub represented : DevicesRepresent t (record (states_in doing.part doing.state) {
    node = node;
  }) p.devices
  pub does : (d : DevicesValue) (sending : Sending)
      → Sends t (record (states_in doing.part doing.state) { node = node }) time sent d sending
      → Does t (states_in doing.part doing.state) (keyed time doing.number doing.event) d
      (done_with doing sending.start)
  pub offers : offering_of (net_of t) doing.state.port sent
      ≡ offering_in (net_of t) doing.state.node doing.state.port doing.event

-- this happened in it, when its node sent what it did
pub record HasHappened (t : TopologyValue) (time : ℕ) (doing : Doing) (h : Happened) : Type 0 where
  pub arrived : h.arrived ≡ None
  pub offering : h.offering
      ≡ offering_in (net_of t) doing.state.node doing.state.port doing.event
  pub started : h.started ≡ started_octets
      (effect (net_of t) doing.state.node doing.state.port time doing.number doing.event).transmission

-- it was done, but the transmission that starts with it, if one does, is not pending yet
pub record IsUnderWay {L : Type 0} (pending : L → FinMap key_cmp (Event (List ℕ)))
    (t : TopologyValue) (time : ℕ) (start : Option (ℕ × Start)) (doing : Doing)
    (p : PartValue L) : Type 0 where
  pub taken : IsTaken pending t time doing p
  pub does : Does t (states_in doing.part doing.state) (keyed time doing.number doing.event)
      p.devices (done_with doing start)

-- the result: it was done, or is back where it was
abbrev pub Performed : {L : Type 0} → (L → FinMap key_cmp (Event (List ℕ))) → TopologyValue
    → Key × Event (List ℕ) → PartValue L → PartValue L → Result Happened AllocError → Type 0
Performed pending t entry old new (Ok h) =
    ((part : Option ℕ) (s : State (List ℕ) NodeStateValue) → IsReady pending t part entry old s
    → RepresentsNext pending t part new s × Happens t old.records.keeping.wanted s entry h)
    × (new.steps ≡ old.steps + 1) × (new.records.keeping ≡ old.records.keeping)
Performed pending t entry old new (Err x) =
    ((part : Option ℕ) (s : State (List ℕ) NodeStateValue) → IsReady pending t part entry old s
    → Represents pending t part new s)
    × (new.steps ≡ old.steps) × (new.records.keeping ≡ old.records.keeping)

-- a run that is to go on until a time: of which part of the network, and in which state it is
pub record RunUntil : Type 0 where
  pub part : Option ℕ
  pub state : State (List ℕ) NodeStateValue
  pub until : ℕ

-- whether an event of it comes before that time
abbrev pub is_event_due : RunUntil → Bool
is_event_due run = pends_before run.until run.state

-- the same as of `Stepped`, but for the key
abbrev pub AdvancedAndTold : {L : Type 0} → (L → FinMap key_cmp (Event (List ℕ))) → TopologyValue
    → RunUntil → PartValue L → PartValue L → Result (Option Happened) AllocError → Type 0
AdvancedAndTold pending t run old new (Ok None) = (new ≡ old) × (is_event_due run ≡ false)
AdvancedAndTold pending t run old new (Ok (Some h)) =
    RepresentsNext pending t run.part new run.state × (is_event_due run ≡ true)
    × HappensNext t old.records.keeping.wanted run.state h
AdvancedAndTold pending t run old new (Err e) =
    Represents pending t run.part new run.state × (is_event_due run ≡ true)

abbrev pub events_happened : Result (Option Happened) AllocError → ℕ
events_happened (Ok None) = 0
events_happened (Ok (Some h)) = 1
events_happened (Err e) = 0

-- what a step answers, and what the part represents after it: memory was refused only if an event
-- was due
abbrev pub Stepped : {L : Type 0} → (L → FinMap key_cmp (Event (List ℕ))) → TopologyValue → RunUntil
    → PartValue L → PartValue L → Result (Option Key) AllocError → Type 0
Stepped pending t run old new (Ok None) = (new ≡ old) × (is_event_due run ≡ false)
Stepped pending t run old new (Ok (Some k)) = RepresentsNext pending t run.part new run.state
    × (is_event_due run ≡ true) × (option_map (λ e. e.0) (least run.state.pending) ≡ Some k)
Stepped pending t run old new (Err e) =
    Represents pending t run.part new run.state × (is_event_due run ≡ true)

-- how many events a step did
abbrev pub events_done : Result (Option Key) AllocError → ℕ
events_done (Ok None) = 0
events_done (Ok (Some k)) = 1
events_done (Err e) = 0

-- the same with what happened in the event
abbrev pub SteppedAndTold : {L : Type 0} → (L → FinMap key_cmp (Event (List ℕ))) → TopologyValue
    → RunUntil → PartValue L → PartValue L → Result (Option Told) AllocError → Type 0
SteppedAndTold pending t run old new (Ok None) = (new ≡ old) × (is_event_due run ≡ false)
SteppedAndTold pending t run old new (Ok (Some k)) =
    RepresentsNext pending t run.part new run.state × (is_event_due run ≡ true)
    × (option_map (λ e. e.0) (least run.state.pending) ≡ Some k.key)
    × HappensNext t old.records.keeping.wanted run.state k.happened
SteppedAndTold pending t run old new (Err e) =
    Represents pending t run.part new run.state × (is_event_due run ≡ true)

abbrev pub events_told : Result (Option Told) AllocError → ℕ
events_told (Ok None) = 0
events_told (Ok (Some k)) = 1
events_told (Err e) = 0

-- how many events were done if the answer is only whether there was one
abbrev pub events_counted : Result Bool AllocError → ℕ
events_counted (Ok false) = 0
events_counted (Ok true) = 1
events_counted (Err e) = 0

-- the same if the answer is only whether there was an event
abbrev pub Advanced : {L : Type 0} → (L → FinMap key_cmp (Event (List ℕ))) → TopologyValue
    → RunUntil → PartValue L → PartValue L → Result Bool AllocError → Type 0
Advanced pending t run old new (Ok false) = (new ≡ old) × (is_event_due run ≡ false)
Advanced pending t run old new (Ok true) =
    RepresentsNext pending t run.part new run.state × (is_event_due run ≡ true)
Advanced pending t run old new (Err e) =
    Represents pending t run.part new run.state × (is_event_due run ≡ true)

-- a packet's arrival at an interface, with its number, is pending too
abbrev pub with_arrival : ℕ → ℕ → ℕ → List ℕ → State (List ℕ) NodeStateValue
    → State (List ℕ) NodeStateValue
with_arrival i number time x s = record s {
  pending = insert s.pending (key_of time (Arrive i) number) (Delivery (Arrival i) x);
}

-- what node v counted, if it is here
abbrev pub count_at : TopologyValue → Option ℕ → State (List ℕ) NodeStateValue → ℕ → Counter
    → Option ℕ
count_at t part s v c = if ltb v (length t.nodes)
    && is_node_here t part v then Some
    (slice_index (s.node v).counters (counter_number c)) else None

-- how many packets were dropped at interface i, if it is here; the count stops at the greatest
-- of its type
abbrev pub drops_at : TopologyValue → Option ℕ → State (List ℕ) NodeStateValue → ℕ → Option ℕ
drops_at t part s i = if ltb i (length t.ifaces)
    && is_iface_here t part i then Some (saturated (s.port i).dropped) else None

-- how much waits at interface i behind the packet that is transmitted, if it is here: so much as
-- these packets amount to, in number or in octets
abbrev pub waiting_at : (amount : List (List ℕ) → ℕ) → TopologyValue → Option ℕ
    → State (List ℕ) NodeStateValue → ℕ → Option ℕ
waiting_at amount t part s i = if ltb i (length t.ifaces)
    && is_iface_here t part i then Some (amount (waiting_of (s.port i).busy)) else None

-- what was put on a channel that goes out from here: within the whole network there is none
abbrev pub messages_out : TopologyValue → Option ℕ → State (List ℕ) NodeStateValue → ℕ
    → List (ℕ × List ℕ)
messages_out t None s c = []
messages_out t (Some p) s c =
    if ltb c (length t.receivers) then s.sent (receiving_iface t c) else []

-- when the interface that sends on a channel completes its transmission; 0 if it is idle, or not
-- here
abbrev pub completes_at : Option (Busy (List ℕ)) → ℕ
completes_at None = 0
completes_at (Some b) = b.completes

abbrev pub busy_at : TopologyValue → Option ℕ → State (List ℕ) NodeStateValue → ℕ → ℕ
busy_at t part s c =
    let i = (net_of t).far_end (receiving_iface t c) in
    if ltb i (length t.ifaces) && is_iface_here t part i then completes_at (s.port i).busy else 0
