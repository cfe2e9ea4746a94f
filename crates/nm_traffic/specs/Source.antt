-- When the packets of a source come, and which octets they are.
use Rattle.std.specs.Prelude.{ℕ, nat_lt, if◌then◌else◌, List, slice_get, Option, Some, None, option_map}
use Rattle.std.specs.Option.{option_and_then}
use Rattle.nm_topology.specs.declared.traffic.Flow.{Flow}
use Rattle.nm_topology.specs.declared.traffic.Traffic.{Traffic}
use Rattle.nm_topology.specs.declared.traffic.Traffic.TheVariants.{Cbr, Echo, Raw}
use Rattle.nm_topology.specs.TopologyValue.{TopologyValue}
use Rattle.nm_traffic.specs.Flow.{flow_time, cbr_octets, echo_message}
use Rattle.nm_traffic.specs.SourceValues.{SourceValue}

-- a time and a packet, if that is before stop
abbrev pub before : ℕ → ℕ × List ℕ → Option (ℕ × List ℕ)
before stop p = if nat_lt p.0 stop then Some p else None

-- packet n of a flow, which has these octets
abbrev pub of_flow : ℕ → Flow → ℕ → List ℕ → Option (ℕ × List ℕ)
of_flow stop f n octets = if nat_lt n f.count then before stop (flow_time f n, octets) else None

-- the time and the octets of packet n, of those that come before stop
unfoldable pub packet_at : ℕ → Traffic → ℕ → Option (ℕ × List ℕ)
packet_at stop (Cbr c) n = of_flow stop c.flow n (cbr_octets c.flow)
packet_at stop (Echo e) n = of_flow stop e.flow n (echo_message e n)
packet_at stop (Raw r) n =
    option_and_then (λ p. before stop (p.at, p.packet)) (slice_get r.packets n)

-- the source with number j
unfoldable pub source_of : TopologyValue → ℕ → Option SourceValue
source_of t j = option_map (λ s. record {
  stop = t.stop;
  traffic = s.traffic;
}) (slice_get t.sources j)

-- packet n of source j, if there is such a source, and such a packet before stop
unfoldable pub source_at : TopologyValue → ℕ → ℕ → Option (ℕ × List ℕ)
source_at t j n = option_and_then (λ s. packet_at s.stop s.traffic n) (source_of t j)
