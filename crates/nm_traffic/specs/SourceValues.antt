-- What contracts see of a source.
use Rattle.std.specs.Prelude.{ℕ}
use Rattle.nm_topology.specs.declared.traffic.Traffic.{Traffic}

pub record SourceValue : Type 0 where
  pub stop : ℕ
  pub traffic : Traffic
