-- What a whole topology text says, with names in place of numbers.
use Rattle.std.specs.Prelude.{ℕ, List}
use Rattle.nm_topology.specs.Parse.TableValues.{NodeTableValue, IfaceTableValue, LinkTableValue}
use Rattle.nm_topology.specs.Parse.TableValues.{RouteTableValue}
use Rattle.nm_topology.specs.Parse.SourceTableValue.{SourceTableValue}

pub record DocumentValue : Type 0 where
  pub stop : ℕ
  pub mtu : ℕ
  pub nodes : List NodeTableValue
  pub ifaces : List IfaceTableValue
  pub links : List LinkTableValue
  pub routes : List RouteTableValue
  pub sources : List SourceTableValue
