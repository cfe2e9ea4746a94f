-- A source of each kind, written out.
use Rattle.std.specs.Prelude.{[], ◌∷◌}
use Rattle.nm_topology.specs.declared.traffic.Cbr.{Cbr}
use Rattle.nm_topology.specs.declared.traffic.Echo.{Echo}
use Rattle.nm_topology.specs.RawValue.{RawValue}

-- three octets of 170 at 5, 15 and 25 nanoseconds
abbrev pub cbr_source : Cbr
cbr_source = record {
  to = 167_772_161;
  source_port = 1_000;
  destination_port = 9;
  flow = record { size = 3; fill = 170; start = 5; interval = 10; count = 3; ttl = 64 };
}

-- requests with two octets of 255, one each nanosecond
abbrev pub echo_source : Echo
echo_source = record {
  to = 167_772_161;
  identifier = 7;
  flow = record { size = 2; fill = 255; start = 0; interval = 1; count = 70_000; ttl = 64 };
}

abbrev pub raw_source : RawValue
raw_source = record {
  via = 3;
  packets = record { at = 4; packet = 1 ∷ 1 ∷ [] } ∷ record { at = 9; packet = 2 ∷ [] } ∷ [];
}
