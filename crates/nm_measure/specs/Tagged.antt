-- What holds of the run over packets with tags.
use Rattle.std.specs.Prelude.{◌≡◌, ℕ, List, Some}
use Rattle.nm_base.specs.declared.event.Origin.{Origin}
use Rattle.nm_forward.specs.Reaction.{reaction}
use Rattle.nm_forward.specs.State.{IsIfaceOf, NodeStateValue}
use Rattle.nm_topology.specs.TopologyValue.{TopologyValue}

-- each node sends by an interface of its own
abbrev pub SendsByOwn : TopologyValue → Type 0
SendsByOwn t = (v : ℕ) (n : NodeStateValue) (o : Origin) (x : List ℕ) (s : ℕ × List ℕ)
    → (reaction t v n o x).1 ≡ Some s → IsIfaceOf t.ifaces v s.0
