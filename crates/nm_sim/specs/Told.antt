-- What happened in an event, as a part says it.
use Rattle.std.specs.Prelude.{◌≡◌, ℕ, List, length, if◌then◌else◌, Option, Some, None}
use Rattle.nm_base.specs.declared.event.Event.{Event}
use Rattle.nm_base.specs.declared.event.Event.TheVariants.{Delivery, Completion}
use Rattle.nm_base.specs.declared.event.Origin.TheVariants.{Arrival, Source}
use Rattle.nm_base.specs.declared.key.Key.{Key}
use Rattle.nm_base.specs.declared.wanted.Wanted.{Wanted}
use Rattle.nm_base.specs.Wanted.{is_wanted}
use Rattle.nm_forward.specs.Row.{arrival_row, row_counter}
use Rattle.nm_forward.specs.State.{NodeStateValue, table_of}
use Rattle.nm_iface.specs.declared.port.Start.{Start}
use Rattle.nm_model.specs.EventList.{least}
use Rattle.nm_model.specs.Offers.{offering_in}
use Rattle.nm_model.specs.Run.{State, effect}
use Rattle.nm_sim.specs.Network.{net_of}
use Rattle.nm_sim.specs.declared.told.Arrived.{Arrived}
use Rattle.nm_sim.specs.declared.told.Started.{Started}
use Rattle.nm_sim.specs.declared.told.Happened.{Happened}
use Rattle.nm_topology.specs.TopologyValue.{TopologyValue}

-- the transmission of a packet that starts, as it is told
abbrev pub started_octets : Option (ℕ × List ℕ) → Option Started
started_octets None = None
started_octets (Some s) = Some (record { iface = s.0; octets = length s.1 })

abbrev pub octets_of_start : Option (ℕ × Start) → Option Started
octets_of_start None = None
octets_of_start (Some s) = Some (record { iface = s.0; octets = length s.1.item.packet })

-- the packet that arrives in an event, as it is told
abbrev pub arrived_in : TopologyValue → Wanted → Event (List ℕ) → Option Arrived
arrived_in t wanted (Delivery (Arrival i) x) = Some (record {
  iface = i;
  octets = length x;
  counter = if is_wanted wanted i then None
      else Some (row_counter (arrival_row (table_of t ((net_of t).owner i)) x));
})
arrived_in t wanted (Delivery (Source j) x) = None
arrived_in t wanted (Completion i) = None

-- this happens in an event, in this state of a run
pub record Happens (t : TopologyValue) (wanted : Wanted) (s : State (List ℕ) NodeStateValue)
    (entry : Key × Event (List ℕ)) (h : Happened) : Type 0 where
  pub arrived : h.arrived ≡ arrived_in t wanted entry.1
  pub offering : h.offering ≡ offering_in (net_of t) s.node s.port entry.1
  pub started : h.started ≡ started_octets
      (effect (net_of t) s.node s.port entry.0.time entry.0.number entry.1).transmission

-- in the event of the least key
abbrev pub HappensNext : TopologyValue → Wanted → State (List ℕ) NodeStateValue → Happened → Type 0
HappensNext t wanted s h =
    (entry : Key × Event (List ℕ)) → least s.pending ≡ Some entry → Happens t wanted s entry h
