-- What the tables of a topology text say, with names in place of numbers.
use Rattle.std.specs.Prelude.{ℕ, List, Option}
use Rattle.nm_topology.specs.declared.node.NodeKind.{NodeKind}
use Rattle.nm_topology.specs.declared.prefix.Prefix.{Prefix}

pub record NodeTableValue : Type 0 where
  pub name : List ℕ
  pub kind : NodeKind
  pub partition : ℕ
  pub ports : List ℕ

pub record IfaceTableValue : Type 0 where
  pub name : List ℕ
  pub node : List ℕ
  pub address : ℕ
  pub queue : ℕ
  pub queue_octets : Option ℕ

pub record LinkTableValue : Type 0 where
  pub a : List ℕ
  pub b : List ℕ
  pub rate : ℕ
  pub delay : ℕ

pub record RouteTableValue : Type 0 where
  pub node : List ℕ
  pub to : Prefix
  pub via : List ℕ
