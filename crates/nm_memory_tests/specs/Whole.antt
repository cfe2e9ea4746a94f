-- What is kept of the part that tests go over.
use Rattle.std.specs.Prelude.{ℕ, List, None}
use Rattle.nm_events.specs.Held.{Held, pending_of}
use Rattle.nm_forward.specs.State.{NodeStateValue}
use Rattle.nm_model.specs.Run.{State}
use Rattle.nm_sim.specs.Part.{PartValue, Represents}
use Rattle.nm_topology.specs.TopologyValue.{TopologyValue}

-- the part is the whole network, in some state of its run
abbrev pub IsWhole : TopologyValue → PartValue Held → Type 0
IsWhole t p = (s : State (List ℕ) NodeStateValue) × Represents pending_of t None p s
