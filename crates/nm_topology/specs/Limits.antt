-- The ranges of the values of an accepted topology.
use Rattle.std.specs.Prelude.{ℕ, ◌+◌, ◌<◌, ◌≤◌, All, List, [], ◌∷◌, length, IfSome}
use Rattle.nm_base.specs.declared.limits.TheConstants.{MAX_COUNT, MAX_DELAY, MAX_INTERVAL, MAX_MTU, MAX_PORTS_OF_NODE, MAX_QUEUE, MAX_QUEUE_OCTETS, MAX_RATE, MAX_RAW_PACKETS, MAX_TIME, MIN_MTU, MIN_RATE}
use Rattle.nm_topology.specs.declared.traffic.Flow.{Flow}
use Rattle.nm_topology.specs.declared.traffic.RawPacket.{RawPacket}
use Rattle.nm_topology.specs.declared.traffic.Traffic.{Traffic}
use Rattle.nm_topology.specs.declared.traffic.Traffic.TheVariants.{Cbr, Echo, Raw}
use Rattle.nm_topology.specs.TopologyValue.{TopologyValue}

-- what a flow sends fits the mtu behind an IPv4 header and a UDP or ICMP header, 28 octets
abbrev pub FitsFlow : ℕ → Flow → Type 0
FitsFlow mtu f =
    (f.size + 28 ≤ mtu) × (f.start ≤ MAX_TIME) × (1 ≤ f.interval) × (f.interval ≤ MAX_INTERVAL)
    × (f.count ≤ MAX_COUNT) × (1 ≤ f.ttl)

-- packets one after another, each later than the one before: the mtu, and the least time
abbrev pub AreRising : ℕ → ℕ → List RawPacket → Type 0
AreRising mtu least [] = Unit {0}
AreRising mtu least (p ∷ ps) =
    (least ≤ p.at) × (p.at ≤ MAX_TIME) × (length p.packet ≤ mtu) × AreRising mtu (p.at + 1) ps

-- raw packets that rise from any time on, and are not too many
abbrev pub FitsPackets : ℕ → List RawPacket → Type 0
FitsPackets mtu packets = AreRising mtu 0 packets × (length packets ≤ MAX_RAW_PACKETS)

unfoldable pub FitsTraffic : ℕ → Traffic → Type 0
FitsTraffic mtu (Cbr c) = FitsFlow mtu c.flow
FitsTraffic mtu (Echo e) = FitsFlow mtu e.flow
FitsTraffic mtu (Raw r) = FitsPackets mtu r.packets

-- no raw packet is empty
unfoldable pub HasOctets : Traffic → Type 0
HasOctets (Cbr c) = Unit {0}
HasOctets (Echo e) = Unit {0}
HasOctets (Raw r) = All (λ p. 1 ≤ length p.packet) r.packets

pub record IsWithinLimits (t : TopologyValue) : Type 0 where
  pub least_stop : 1 ≤ t.stop
  pub greatest_stop : t.stop ≤ MAX_TIME
  pub least_mtu : MIN_MTU ≤ t.mtu
  pub greatest_mtu : t.mtu ≤ MAX_MTU
  pub nodes : All (λ n. (n.partition < t.partitions) × (length n.ports ≤ MAX_PORTS_OF_NODE)) t.nodes
  pub ifaces : All
      (λ i. (i.queue ≤ MAX_QUEUE)
      × (MIN_RATE ≤ i.far.rate) × (i.far.rate ≤ MAX_RATE) × (i.far.delay ≤ MAX_DELAY)) t.ifaces
  pub queue_octets : All (λ i. IfSome i.queue_octets (λ n. n ≤ MAX_QUEUE_OCTETS)) t.ifaces
  pub sources : All (λ s. FitsTraffic t.mtu s.traffic) t.sources
