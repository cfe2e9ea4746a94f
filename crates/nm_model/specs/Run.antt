-- The run: the event of the least key is done, again and again. Which places belong to the run,
-- what is here, is a parameter: one definition serves the whole network with its one event list
-- (Misra, section 1) and a part of it, a logical process (section 2).
use Rattle.std.specs.Prelude.{ℕ, zero, suc, ◌+◌, Bool, true, length, List, [], ◌∷◌, ◌++◌, Option, Some, None}
use Rattle.std.specs.FinMap.{FinMap, remove, empty}
use Rattle.nm_base.specs.declared.key.Place.{Place}
use Rattle.nm_base.specs.declared.key.Key.{Key}
use Rattle.nm_base.specs.declared.event.Event.{Event}
use Rattle.nm_base.specs.declared.event.Event.TheVariants.{Delivery, Completion}
use Rattle.nm_base.specs.declared.event.Origin.TheVariants.{Arrival, Source}
use Rattle.nm_base.specs.declared.record.Dir.TheVariants.{In, Out}
use Rattle.nm_base.specs.declared.record.Record.{Record}
use Rattle.nm_base.specs.Event.{event_place}
use Rattle.nm_base.specs.Key.{key_of, key_cmp}
use Rattle.nm_model.specs.Lists.{set_at}
use Rattle.nm_model.specs.EventList.{least, schedule, is_before}
use Rattle.nm_model.specs.Network.{Net, node_of}
use Rattle.nm_model.specs.Port.{Port, idle_port, offered, completed}

pub record State (P N : Type 0) : Type 0 where
  -- of each node and interface
  pub node : ℕ → N
  pub port : ℕ → Port P
  -- the event list
  pub pending : FinMap key_cmp (Event P)
  -- by the receiving interface: what was put on it so far, each with its time of arrival; its
  -- length is the next arrival's number
  pub sent : ℕ → List (ℕ × P)
  -- how many arrivals were done
  pub arrived : ℕ → ℕ
  -- the trace
  pub records : List (Record P)

-- What an event does at its node, and all that it does.
pub record Effect (P N : Type 0) : Type 0 where
  -- the node's state after
  pub after : N
  -- the packet that arrived, and where
  pub came : Option (ℕ × P)
  -- the one port that changes
  pub turn : Option (ℕ × Port P)
  -- the one transmission that starts, and where
  pub transmission : Option (ℕ × P)
  -- the source's next packet: which source, when, and which packet
  pub follows : Option (ℕ × ℕ × P)

abbrev pub at_iface : {P : Type 0} → ℕ → Option P → Option (ℕ × P)
at_iface i None = None
at_iface i (Some x) = Some (i, x)

abbrev pub turned : {P : Type 0} → (ℕ → Port P) → Option (ℕ × Port P) → ℕ → Port P
turned ports None = ports
turned ports (Some w) = set_at ports w.0 w.1

abbrev pub by_source : {P : Type 0} → ℕ → Option (ℕ × P) → Option (ℕ × ℕ × P)
by_source j None = None
by_source j (Some f) = Some (j, f.0, f.1)

-- an event under its key
abbrev pub keyed : {P : Type 0} → ℕ → ℕ → Event P → Key × Event P
keyed time number e = (key_of time (event_place e) number, e)

abbrev pub next_events : {P : Type 0} → ℕ → Option (ℕ × ℕ × P) → List (Key × Event P)
next_events number None = []
next_events number (Some f) = keyed f.1 (suc number) (Delivery (Source f.0) f.2) ∷ []

abbrev pub arrived_after : {P : Type 0} → (ℕ → ℕ) → Option (ℕ × P) → ℕ → ℕ
arrived_after f None = f
arrived_after f (Some a) = set_at f a.0 (suc (f a.0))

abbrev pub in_record : {P : Type 0} → ℕ → Option (ℕ × P) → List (Record P)
in_record time None = []
in_record time (Some a) = record { time = time; iface = a.0; dir = In; packet = a.1 } ∷ []

abbrev pub out_record : {P : Type 0} → ℕ → Option (ℕ × P) → List (Record P)
out_record time None = []
out_record time (Some s) = record { time = time; iface = s.0; dir = Out; packet = s.1 } ∷ []

abbrev pub first_event : {P : Type 0} → ℕ → Option (ℕ × P) → List (Key × Event P)
first_event j None = []
first_event j (Some f) = keyed f.0 0 (Delivery (Source j) f.1) ∷ []

-- whether something before t is pending
abbrev pub pends_before : {P N : Type 0} → ℕ → State P N → Bool
pends_before t s = is_before t (least s.pending)

module _ {P N : Type 0} (net : Net P N) where
  -- interface i goes on as its port says
  abbrev pub turned_by : Option (ℕ × P) → N → ℕ → Port P × Option P → Option (ℕ × ℕ × P)
      → Effect P N
  turned_by came n i r follows = record {
    after = n;
    came = came;
    turn = Some (i, r.0);
    transmission = at_iface i r.1;
    follows = follows;
  }

  -- what a reaction sends is offered to its interface
  abbrev pub sent_on : (ℕ → Port P) → ℕ → Option (ℕ × P) → N → Option (ℕ × P) → Option (ℕ × ℕ × P)
      → Effect P N
  sent_on ports time came n None follows = record {
    after = n;
    came = came;
    turn = None;
    transmission = None;
    follows = follows;
  }
  sent_on ports time came n (Some s) follows =
      turned_by came n s.0
      (offered (net.room s.0) (net.tx s.0) time s.1 (ports s.0).dropped
      (ports s.0).busy) follows

  abbrev pub reacted : (ℕ → Port P) → ℕ → Option (ℕ × P) → N × Option (ℕ × P) → Option (ℕ × ℕ × P)
      → Effect P N
  reacted ports time came r follows = sent_on ports time came r.0 r.1 follows

  -- The effect of an event. It reads the state of its node and that node's ports alone.
  abbrev pub effect : (ℕ → N) → (ℕ → Port P) → ℕ → ℕ → Event P → Effect P N
  effect nodes ports time number (Delivery (Arrival i) x) =
      reacted ports time (Some (i, x))
      (net.react (net.owner i) (nodes (net.owner i)) (Arrival i) x) None
  effect nodes ports time number (Delivery (Source j) x) =
      reacted ports time None
      (net.react (net.source_node j) (nodes (net.source_node j)) (Source j) x)
      (by_source j (net.source j (suc number)))
  effect nodes ports time number (Completion i) =
      turned_by None (nodes (net.owner i)) i
      (completed (net.tx i) time (ports i).dropped (ports i).busy) None

  -- a transmission that starts at this time arrives at the far interface
  abbrev pub sent_after : ℕ → (ℕ → List (ℕ × P)) → Option (ℕ × P) → ℕ → List (ℕ × P)
  sent_after time sent None = sent
  sent_after time sent (Some s) =
      set_at sent (net.far_end s.0)
      (sent (net.far_end s.0) ++ (time + net.tx s.0 s.1 + net.delay s.0, s.1) ∷ [])

  -- its completion and its arrival
  abbrev pub transmission_events : ℕ → (ℕ → List (ℕ × P)) → Option (ℕ × P) → List (Key × Event P)
  transmission_events time sent None = []
  transmission_events time sent (Some s) =
      let n = length (sent (net.far_end s.0)) in
      keyed (time + net.tx s.0 s.1) n (Completion s.0)
      ∷ keyed (time + net.tx s.0 s.1 + net.delay s.0) n (Delivery (Arrival (net.far_end s.0)) s.1)
      ∷ []

  -- the events that an event makes
  abbrev pub new_events : Key → (ℕ → List (ℕ × P)) → Effect P N → List (Key × Event P)
  new_events k sent e =
      transmission_events k.time sent e.transmission ++ next_events k.number e.follows

  -- the events that this event makes in this state
  abbrev pub made : State P N → Key × Event P → List (Key × Event P)
  made s e = new_events e.0 s.sent (effect s.node s.port e.0.time e.0.number e.1)

  abbrev pub apply : (Place → Bool) → Key → Effect P N → State P N → State P N
  apply here k e s = record {
    node = set_at s.node (node_of net k.place) e.after;
    port = turned s.port e.turn;
    pending = schedule here (new_events k s.sent e) (remove s.pending k);
    sent = sent_after k.time s.sent e.transmission;
    arrived = arrived_after s.arrived e.came;
    records = s.records ++ (in_record k.time e.came ++ out_record k.time e.transmission);
  }

  abbrev pub step_at : (Place → Bool) → State P N → Option (Key × Event P) → State P N
  step_at here s None = s
  step_at here s (Some e) = apply here e.0 (effect s.node s.port e.0.time e.0.number e.1) s

  -- the event of the least key, if one is pending
  abbrev pub step : (Place → Bool) → State P N → State P N
  step here s = step_at here s (least s.pending)

  abbrev pub run : (Place → Bool) → ℕ → State P N → State P N
  run here zero s = s
  run here (suc n) s = step here (run here n s)

  -- the first event of each source
  abbrev pub source_events : ℕ → List (Key × Event P)
  source_events zero = []
  source_events (suc j) = first_event j (net.source j 0) ++ source_events j

  -- the sources that are here, and these messages
  abbrev pub start : (Place → Bool) → List (Key × Event P) → State P N
  start here messages = record {
    node = net.first;
    port = λ i. idle_port;
    pending = schedule here (source_events net.sources) (schedule (λ q. true) messages empty);
    sent = λ c. [];
    arrived = λ c. 0;
    records = [];
  }

  -- the whole network after n events of one list
  abbrev pub one_list : ℕ → State P N
  one_list n = run (λ q. true) n (start (λ q. true) [])
