-- What an event does at its node, and what it asks for.
use Rattle.std.specs.Prelude.{◌≡◌, ℕ, ◌<◌, ◌^◌, true, List, length, Option, Some, None, slice_get}
use Rattle.std.specs.Option.{IsSome, IfSome}
use Rattle.nm_base.specs.declared.key.Key.{Key}
use Rattle.nm_base.specs.declared.key.Place.{Place}
use Rattle.nm_base.specs.declared.key.Place.TheVariants.{Arrive, Complete, Fire}
use Rattle.nm_base.specs.Event.{event_place}
use Rattle.nm_base.specs.declared.event.Event.{Event}
use Rattle.nm_base.specs.declared.event.Event.TheVariants.{Delivery, Completion}
use Rattle.nm_base.specs.declared.event.Origin.{Origin}
use Rattle.nm_base.specs.declared.event.Origin.TheVariants.{Arrival, Source}
use Rattle.nm_topology.specs.TopologyValue.{TopologyValue}
use Rattle.nm_model.specs.Lists.{set_at}
use Rattle.nm_model.specs.Network.{node_of}
use Rattle.nm_model.specs.Offers.{offering_of}
use Rattle.nm_model.specs.Run.{Effect, effect, sent_on, turned}
use Rattle.nm_forward.specs.State.{NodeStateValue}
use Rattle.nm_forward.specs.declared.reaction.Reaction.{Reaction}
use Rattle.nm_forward.specs.Reaction.{FitsOrigin, reaction}
use Rattle.nm_forward.specs.Reacting.{IsSent}
use Rattle.nm_iface.specs.PortValue.{PortValue}
use Rattle.nm_iface.specs.declared.port.Start.{Start}
use Rattle.nm_iface.specs.Offers.{HasCopy, IsTransmission}
use Rattle.nm_base.specs.Wanted.{is_wanted}
use Rattle.nm_base.specs.declared.wanted.Wanted.{Wanted}
use Rattle.nm_sim.specs.Devices.{DeviceStates, DevicesValue, DevicesRepresent}
use Rattle.nm_sim.specs.Network.{IsIfaceHere, far_of, net_of}
use Rattle.nm_sim.specs.declared.sending.Sending.{Sending}

-- the place is one of the topology's
abbrev pub IsPlaceIn : TopologyValue → Place → Type 0
IsPlaceIn t (Arrive i) = i < length t.ifaces
IsPlaceIn t (Complete i) = i < length t.ifaces
IsPlaceIn t (Fire j) = j < length t.sources

-- the interface transmits
abbrev pub IsBusy : Option (Option PortValue) → Type 0
IsBusy None = ⊥
IsBusy (Some None) = ⊥
IsBusy (Some (Some w)) = IsSome w.busy

-- an event that can happen now
abbrev pub CanHappen : TopologyValue → DevicesValue → ℕ → Event (List ℕ) → Type 0
CanHappen t d number (Delivery (Arrival i) x) = i < length t.ifaces
CanHappen t d number (Delivery (Source j) x) =
    (j < length t.sources) × FitsOrigin t (Source j) x × (number < 2 ^ 63)
CanHappen t d number (Completion i) = (i < length t.ifaces) × IsBusy (slice_get d.ports i)

-- the packet whose transmission starts, and where
abbrev pub transmission_of : Option (ℕ × Start) → Option (ℕ × List ℕ)
transmission_of None = None
transmission_of (Some s) = Some (s.0, s.1.item.packet)

-- a start, and where
abbrev pub transmission_at : ℕ → Option Start → Option (ℕ × Start)
transmission_at i None = None
transmission_at i (Some s) = Some (i, s)

-- the transmission that starts at this time, by an interface that is here
abbrev pub TransmitsAt : TopologyValue → Option ℕ → ℕ → ℕ × Start → Type 0
TransmitsAt t part time s = IsIfaceHere t part s.0
    × IsTransmission (far_of t s.0).rate (far_of t s.0).delay time s.1.item.packet s.1

-- its packet has a copy, if records of its interface are wanted
abbrev pub IsCopied : Wanted → ℕ × Start → Type 0
IsCopied wanted s = is_wanted wanted s.0 ≡ true → HasCopy s.1

-- What was done beside the change of a node and of one port: the packet that arrived, and where;
-- the transmission that starts, and where; and the source's next packet: which source, when, and
-- which packet.
pub record Done : Type 0 where
  pub came : Option (ℕ × List ℕ)
  pub transmission : Option (ℕ × Start)
  pub follows : Option (ℕ × ℕ × List ℕ)

-- what was done is this effect
pub record IsEffect (t : TopologyValue) (part : Option ℕ) (time : ℕ) (e : Done)
    (m : Effect (List ℕ) NodeStateValue) : Type 0 where
  pub came : e.came ≡ m.came
  pub transmission : transmission_of e.transmission ≡ m.transmission
  pub transmits : IfSome e.transmission (TransmitsAt t part time)
  pub follows : e.follows ≡ m.follows

-- what an event changes in these states, and what it asks for
abbrev pub effect_in : TopologyValue → DeviceStates → Key × Event (List ℕ)
    → Effect (List ℕ) NodeStateValue
effect_in t states entry =
    effect (net_of t) states.node states.port entry.0.time entry.0.number entry.1

-- the states after that
abbrev pub states_after : TopologyValue → DeviceStates → Key × Event (List ℕ) → DeviceStates
states_after t states entry = record states {
  node = set_at states.node (node_of (net_of t) (event_place entry.1))
      (effect_in t states entry).after;
  port = turned states.port (effect_in t states entry).turn;
}

-- an event was done, when nodes and ports had these states
pub record Does (t : TopologyValue) (states : DeviceStates) (entry : Key × Event (List ℕ))
    (d : DevicesValue) (e : Done) : Type 0 where
  pub represented : DevicesRepresent t (states_after t states entry) d
  pub does : IsEffect t states.part entry.0.time e (effect_in t states entry)

-- after a node has sent this, or nothing
pub record Sends (t : TopologyValue) (states : DeviceStates) (time : ℕ)
    (sent : Option (ℕ × List ℕ)) (d : DevicesValue) (sending : Sending) : Type 0 where
  pub represented : (n : NodeStateValue) (came : Option (ℕ × List ℕ))
      (follows : Option (ℕ × ℕ × List ℕ))
      → DevicesRepresent t (record states {
        port = turned states.port
            (sent_on (net_of t) states.port time came n sent follows).turn;
      }) d
  pub transmission : (n : NodeStateValue) (came : Option (ℕ × List ℕ))
      (follows : Option (ℕ × ℕ × List ℕ))
      → transmission_of sending.start
      ≡ (sent_on (net_of t) states.port time came n sent follows).transmission
  pub transmits : IfSome sending.start (TransmitsAt t states.part time)
  pub offered : sending.offering ≡ offering_of (net_of t) states.port sent

-- what node v does with its input: where a packet came from, and the packet
abbrev pub reaction_in : TopologyValue → DeviceStates → ℕ → Origin × List ℕ
    → NodeStateValue × Option (ℕ × List ℕ)
reaction_in t states v given = reaction t v (states.node v) given.0 given.1

-- the states after that, before anything is sent
abbrev pub states_reacted : TopologyValue → DeviceStates → ℕ → Origin × List ℕ → DeviceStates
states_reacted t states v given = record states {
  node = set_at states.node v (reaction_in t states v given).0;
}

-- node v has reacted to what it was given, and sends this, or nothing
pub record Reacts (t : TopologyValue) (states : DeviceStates) (v : ℕ) (given : Origin × List ℕ)
    (d : DevicesValue) (sent : Option (ℕ × List ℕ)) : Type 0 where
  pub represented : DevicesRepresent t (states_reacted t states v given) d
  pub sends : sent ≡ (reaction_in t states v given).1

-- node v has reacted to what it was given, and this is its reaction
abbrev pub ReactsWith : TopologyValue → DeviceStates → ℕ → Origin × List ℕ → DevicesValue
    → Reaction → Type 0
ReactsWith t states v given d r = (sent : Option (ℕ × List ℕ)) × IsSent d.ports r sent
    × Reacts t states v given d sent
