-- What a table of `source` says.
use Rattle.std.specs.Prelude.{ℕ, List}
use Rattle.nm_topology.specs.declared.parse.sources.NamedTraffic.{NamedTraffic}

pub record SourceTableValue : Type 0 where
  pub node : List ℕ
  pub traffic : NamedTraffic
