-- The nodes, ports and sources of a part of a simulation, and what they represent.
use Rattle.std.specs.Prelude.{◌≡◌, ◌⊎◌, ℕ, ◌≤◌, List, length, Option, Some, None, slice_get}
use Rattle.nm_topology.specs.TopologyValue.{TopologyValue}
use Rattle.nm_model.specs.Port.{Port}
use Rattle.nm_forward.specs.State.{NodeStateValue, table_of}
use Rattle.nm_base.specs.Count.{saturated}
use Rattle.nm_base.specs.Wanted.{is_wanted}
use Rattle.nm_base.specs.declared.wanted.Wanted.{Wanted}
use Rattle.nm_iface.specs.PortValue.{PortValue}
use Rattle.nm_traffic.specs.Source.{source_of}
use Rattle.nm_traffic.specs.SourceValues.{SourceValue}
use Rattle.nm_sim.specs.Tables.{AllHere, AllSome}
use Rattle.nm_sim.specs.Network.{far_of, is_iface_here, is_node_here, is_source_here, queue_of}

-- what contracts see of them: by number, if they are here, the port whose memory was used since
-- memory was last made, and which interfaces have wanted records
pub record DevicesValue : Type 0 where
  pub nodes : List (Option NodeStateValue)
  pub ports : List (Option PortValue)
  pub sources : List (Option SourceValue)
  pub used : Option ℕ
  pub wanted : Wanted

-- a port of the interface i; its count of drops stops at the greatest of its type
pub record IsPortOf (t : TopologyValue) (i : ℕ) (w : PortValue)
    (port : Port (List ℕ)) : Type 0 where
  pub limit : w.limit ≡ queue_of t i
  pub rate : w.rate ≡ (far_of t i).rate
  pub delay : w.delay ≡ (far_of t i).delay
  pub busy : w.busy ≡ port.busy
  pub dropped : w.dropped ≡ saturated port.dropped

-- a node in this state, which knows what the topology says of it
abbrev pub IsNodeOf : TopologyValue → ℕ → NodeStateValue → NodeStateValue → Type 0
IsNodeOf t v n state = (n ≡ state) × (n.table ≡ table_of t v)

-- The states of nodes and ports, by number, and what part of the network is here: all of it
-- (None), or one partition.
pub record DeviceStates : Type 0 where
  pub part : Option ℕ
  pub node : ℕ → NodeStateValue
  pub port : ℕ → Port (List ℕ)

-- the devices represent the states of the nodes and ports that are here
pub record DevicesRepresent (t : TopologyValue) (states : DeviceStates)
    (d : DevicesValue) : Type 0 where
  pub node_count : length d.nodes ≡ length t.nodes
  pub nodes : AllHere (is_node_here t states.part) (λ v n. IsNodeOf t v n (states.node v)) d.nodes
  pub port_count : length d.ports ≡ length t.ifaces
  pub ports : AllHere (is_iface_here t states.part) (λ i w. IsPortOf t i w (states.port i)) d.ports
  pub source_count : length d.sources ≡ length t.sources
  pub sources : AllHere (is_source_here t states.part) (λ j s. source_of t j ≡ Some s) d.sources

-- each of these ports has memory for one more packet, but for the one whose memory was used, and
-- records what it transmits exactly if records of its interface are wanted
abbrev pub AreSound : Wanted → Option ℕ → List (Option PortValue) → Type 0
AreSound wanted used ports =
    AllSome (λ i w. ((1 ≤ w.room) ⊎ (used ≡ Some i)) × (w.recorded ≡ is_wanted wanted i)) ports

-- the same but for memory
abbrev pub IsSamePort : Option PortValue → Option PortValue → Type 0
IsSamePort None None = Unit {0}
IsSamePort None (Some w) = ⊥
IsSamePort (Some v) None = ⊥
IsSamePort (Some v) (Some w) = w ≡ record v { room = w.room }

pub record IsSame (d e : DevicesValue) : Type 0 where
  pub nodes : e.nodes ≡ d.nodes
  pub port_count : length e.ports ≡ length d.ports
  pub ports : (i : ℕ) (w : Option PortValue) → slice_get e.ports i ≡ Some w
      → (v : Option PortValue) × (slice_get d.ports i ≡ Some v) × IsSamePort v w
  pub sources : e.sources ≡ d.sources
  pub wanted : e.wanted ≡ d.wanted

-- the devices represent some states
abbrev pub DevicesRepresentSome : TopologyValue → DevicesValue → Type 0
DevicesRepresentSome t d = (states : DeviceStates) × DevicesRepresent t states d
