-- What contracts see of a topology.
use Rattle.std.specs.Prelude.{ℕ, List, Option}
use Rattle.nm_topology.specs.declared.node.NodeKind.{NodeKind}
use Rattle.nm_topology.specs.declared.parts.Far.{Far}
use Rattle.nm_topology.specs.declared.parts.Route.{Route}

pub record NodeValue : Type 0 where
  pub name : List ℕ
  pub kind : NodeKind
  pub partition : ℕ
  pub ports : List ℕ
  pub routes : List Route

pub record IfaceValue : Type 0 where
  pub name : List ℕ
  pub node : ℕ
  pub address : ℕ
  pub queue : ℕ
  pub queue_octets : Option ℕ
  pub far : Far
