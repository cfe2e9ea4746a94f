-- What contracts see of a source of raw packets.
use Rattle.std.specs.Prelude.{ℕ, List}
use Rattle.nm_topology.specs.declared.traffic.RawPacket.{RawPacket}

pub record RawValue : Type 0 where
  pub via : ℕ
  pub packets : List RawPacket
