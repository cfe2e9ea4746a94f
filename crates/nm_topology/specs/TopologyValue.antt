-- What contracts see of a topology.
use Rattle.nm_topology.specs.PartValues.{NodeValue, IfaceValue}
use Rattle.nm_topology.specs.declared.parts.Link.{Link}
use Rattle.nm_topology.specs.declared.traffic.Source.{Source}
use Rattle.std.specs.Prelude.{ℕ, List}

pub record TopologyValue : Type 0 where
  pub stop : ℕ
  pub mtu : ℕ
  pub nodes : List NodeValue
  pub ifaces : List IfaceValue
  pub links : List Link
  pub sources : List Source
  pub receivers : List ℕ
  pub partitions : ℕ
  pub digest : List ℕ
