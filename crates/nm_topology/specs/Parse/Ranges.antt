-- The ranges of the values of a topology text, with names in place of numbers.
use Rattle.std.specs.Prelude.{ℕ, ◌≤◌, All, length, IfSome}
use Rattle.nm_base.specs.declared.limits.TheConstants.{MAX_PORTS_OF_NODE}
use Rattle.nm_topology.specs.declared.keys.fields.TheConstants.{DELAY, MTU, QUEUE, QUEUE_OCTETS}
use Rattle.nm_topology.specs.declared.keys.fields.TheConstants.{RATE, STOP}
use Rattle.nm_topology.specs.declared.parse.sources.NamedTraffic.{NamedTraffic}
use Rattle.nm_topology.specs.declared.parse.sources.NamedTraffic.TheVariants.{Cbr as NamedCbr}
use Rattle.nm_topology.specs.declared.parse.sources.NamedTraffic.TheVariants.{Echo as NamedEcho}
use Rattle.nm_topology.specs.declared.parse.sources.NamedTraffic.TheVariants.{Raw as NamedRaw}
use Rattle.nm_topology.specs.Parse.TableValues.{LinkTableValue}
use Rattle.nm_topology.specs.Parse.DocumentValue.{DocumentValue}
use Rattle.nm_topology.specs.Keys.{IsInBounds}
use Rattle.nm_topology.specs.Limits.{FitsFlow, FitsPackets}

abbrev pub IsLinkInRange : LinkTableValue → Type 0
IsLinkInRange l = IsInBounds RATE l.rate × IsInBounds DELAY l.delay

unfoldable pub FitsNamedTraffic : ℕ → NamedTraffic → Type 0
FitsNamedTraffic mtu (NamedCbr c) = FitsFlow mtu c.flow
FitsNamedTraffic mtu (NamedEcho e) = FitsFlow mtu e.flow
FitsNamedTraffic mtu (NamedRaw r) =
    FitsPackets mtu r.packets × All (λ p. 1 ≤ length p.packet) r.packets

pub record IsInRange (d : DocumentValue) : Type 0 where
  pub stop : IsInBounds STOP d.stop
  pub mtu : IsInBounds MTU d.mtu
  pub nodes : All (λ n. length n.ports ≤ MAX_PORTS_OF_NODE) d.nodes
  pub ifaces : All (λ i. IsInBounds QUEUE i.queue) d.ifaces
  pub queue_octets : All (λ i. IfSome i.queue_octets (IsInBounds QUEUE_OCTETS)) d.ifaces
  pub links : All IsLinkInRange d.links
  pub sources : All (λ s. FitsNamedTraffic d.mtu s.traffic) d.sources
