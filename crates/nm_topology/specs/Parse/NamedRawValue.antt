-- What a source of raw packets says.
use Rattle.std.specs.Prelude.{ℕ, List}
use Rattle.nm_topology.specs.declared.traffic.RawPacket.{RawPacket}

pub record NamedRawValue : Type 0 where
  pub via : List ℕ
  pub packets : List RawPacket
