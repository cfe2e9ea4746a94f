-- A part that represents a state of its network's run does so after a step too.
use Rattle.std.proofs.Common.{ℕ, List, Option, Some, None, Result, Ok, Err, sym, subst}
use Rattle.std.specs.FinMap.{FinMap}
use Rattle.std.specs.declared.alloc.AllocError.{AllocError}
use Rattle.nm_base.specs.declared.event.Event.{Event}
use Rattle.nm_base.specs.declared.key.Key.{Key}
use Rattle.nm_base.specs.Key.{key_cmp}
use Rattle.nm_topology.specs.TopologyValue.{TopologyValue}
use Rattle.nm_model.specs.Run.{State, step}
use Rattle.nm_forward.specs.State.{NodeStateValue}
use Rattle.nm_sim.specs.Network.{here_of, net_of}
use Rattle.nm_sim.specs.Part.{PartValue, Represents, Stepped}

pub represents_stepped : {L : Type 0} (pending : L → FinMap key_cmp (Event (List ℕ))) (t : TopologyValue) (part : Option ℕ) (before : ℕ)
    (s : State (List ℕ) NodeStateValue) (old new : PartValue L) (result : Result (Option Key) AllocError)
    → Represents pending t part old s → Stepped pending t (record { part = part; state = s; until = before }) old new result
    → (x : State (List ℕ) NodeStateValue) × Represents pending t part new x
represents_stepped pending t part before s old new (Ok None) represents h = (s, subst (λ p. Represents pending t part p s) (sym h.0) represents)
represents_stepped pending t part before s old new (Ok (Some k)) represents h = (step (net_of t) (here_of t part) s, h.0)
represents_stepped pending t part before s old new (Err e) represents h = (s, h.0)
