-- What is seen of all interfaces of a network, event by event.
use Rattle.std.specs.Prelude.{◌≡◌, ◌≢◌, ℕ, suc, ◌+◌, ◌<◌, ◌≤◌, min, List, length, slice_get, Option, Some, None}
use Rattle.std.specs.Option.{option_map}
use Rattle.nm_base.specs.Count.{saturated}
use Rattle.nm_base.specs.declared.event.Event.{Event}
use Rattle.nm_base.specs.declared.key.Key.{Key}
use Rattle.nm_base.specs.declared.key.Place.{Place}
use Rattle.nm_events.specs.Held.{Held, pending_of}
use Rattle.nm_forward.specs.State.{NodeStateValue}
use Rattle.nm_iface.specs.Transmission.{transmission_time}
use Rattle.nm_model.specs.EventList.{least}
use Rattle.nm_model.specs.Port.{Port, waiting_of}
use Rattle.nm_model.specs.Run.{State, effect, one_list}
use Rattle.nm_topology.specs.TopologyValue.{TopologyValue}
use Rattle.nm_base.specs.declared.wanted.Wanted.TheVariants.{Nothing}
use Rattle.nm_base.specs.declared.key.Place.TheVariants.{Arrive, Complete, Fire}
use Rattle.nm_model.specs.declared.offering.Offering.{Offering}
use Rattle.nm_model.specs.declared.offering.Offering.TheVariants as became
use Rattle.nm_sim.specs.Told.{Happens}
use Rattle.nm_sim.specs.declared.told.Happened.{Happened}
use Rattle.nm_sim.specs.Network.{far_of, net_of}
use Rattle.nm_sim.specs.Part.{PartValue, Represents}
use Rattle.nm_measure.specs.declared.queue.Waits.{Waits}
use Rattle.nm_measure.specs.declared.seen.Seen.{Seen}
use Rattle.nm_measure.specs.Queues.{in_octets, in_packets}
use Rattle.nm_measure.specs.Seen.{IsSeen}
use Rattle.nm_measure.specs.Usage.{span_after}
use Rattle.nm_measure.specs.Waiting.{queue_later}

-- of each interface after n events; the most that waited recently count since `first` events
pub record AreSeen (t : TopologyValue) (first n : ℕ) (all : List Seen) : Type 0 where
  pub since : first ≤ n
  pub count : length all ≡ length t.ifaces
  pub each : (i : ℕ) (x : Seen) → slice_get all i ≡ Some x
      → IsSeen (net_of t) i first n t.stop x × (x.usage.rate ≡ (far_of t i).rate)

-- the interface at which a packet waits behind others
abbrev pub queued_at : Offering → Option ℕ
queued_at became.Nothing = None
queued_at (became.Started i) = None
queued_at (became.Waits i) = Some i
queued_at (became.Dropped i) = None

-- what waits at a port
abbrev pub waits_at : Port (List ℕ) → Waits
waits_at port = record {
  packets = in_packets (waiting_of port.busy);
  octets = in_octets (waiting_of port.busy);
}

-- at interface i in this state of a run
abbrev pub queue_in : ℕ → State (List ℕ) NodeStateValue → Waits
queue_in i s = waits_at (s.port i)

-- the part is the whole network after event n, which happened now and at this place, and in which
-- this happened
pub record IsNext (t : TopologyValue) (n now : ℕ) (place : Place) (p : PartValue Held)
    (h : Happened) : Type 0 where
  pub event : Key × Event (List ℕ)
  pub first : least (one_list (net_of t) n).pending ≡ Some event
  pub at_time : event.0.time ≡ now
  pub at_place : event.0.place ≡ place
  pub early : now < t.stop
  pub before : (q : PartValue Held) × Represents pending_of t None q (one_list (net_of t) n)
  pub represents : Represents pending_of t None p (one_list (net_of t) (suc n))
  pub happened : Happens t Nothing (one_list (net_of t) n) event h

-- event n starts no transmission
abbrev pub StartsNone : TopologyValue → ℕ → Type 0
StartsNone t n = (e : Key × Event (List ℕ)) → least (one_list (net_of t) n).pending ≡ Some e
    → (effect (net_of t) (one_list (net_of t) n).node (one_list (net_of t) n).port e.0.time
    e.0.number e.1).transmission ≡ None

-- The interface whose queue an event at this place may change, by what happened. A packet that
-- starts at once finds an empty queue and leaves one; so does a completion behind which none starts.
-- A packet that is dropped leaves a full one as it is.
abbrev pub queue_turned : Place → Happened → Option ℕ
queue_turned (Complete i) what = option_map (λ s. s.iface) what.started
queue_turned (Arrive i) what = queued_at what.offering
queue_turned (Fire j) what = queued_at what.offering

-- event n leaves all queues but this one as they are
abbrev pub IsTurn : TopologyValue → ℕ → Option ℕ → Type 0
IsTurn t n turned = (i : ℕ) → i < length t.ifaces → turned ≢ Some i
    → queue_in i (one_list (net_of t) (suc n)) ≡ queue_in i (one_list (net_of t) n)

-- one element of a list changes so, and the others stay
pub record OneChanges (k : ℕ) (Changes : Seen → Seen → Type 0) (old new : List Seen)
    : Type 0 where
  pub count : length new ≡ length old
  pub here : (x : Seen) → slice_get old k ≡ Some x
      → (y : Seen) × (slice_get new k ≡ Some y) × Changes x y
  pub others : (i : ℕ) → i ≢ k → slice_get new i ≡ slice_get old i

-- its queue is this from now on, and nothing else changed
abbrev pub HasQueue : (now : ℕ) → Waits → Seen → Seen → Type 0
HasQueue now waits x y = (y.queue ≡ queue_later x.queue waits now) × (y.usage ≡ x.usage)

-- a transmission of so many octets started, `left` before `stop`, and nothing else changed
pub record HasStarted (octets now left : ℕ) (x y : Seen) : Type 0 where
  pub queue : y.queue ≡ x.queue
  pub rate : y.usage.rate ≡ x.usage.rate
  pub busy : y.usage.busy
      ≡ saturated (x.usage.busy + min (transmission_time x.usage.rate octets) left)
  pub last : y.usage.last_busy ≡ min (transmission_time x.usage.rate octets) left
  pub starts : y.usage.starts ≡ span_after x.usage.starts now
