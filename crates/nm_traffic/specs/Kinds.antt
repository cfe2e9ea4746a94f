-- The traffic of a source by its kind.
use Rattle.nm_topology.specs.declared.traffic.Traffic.{Traffic}
use Rattle.nm_topology.specs.declared.traffic.Traffic.TheVariants.{Cbr, Echo, Raw}
use Rattle.nm_traffic.specs.declared.kind.Kind.{Kind}
use Rattle.nm_traffic.specs.declared.kind.Kind.TheVariants.{Cbr as CbrKind, Echo as EchoKind, Raw as RawKind}

abbrev pub traffic_of : Kind → Traffic
traffic_of (CbrKind c) = Cbr c.cbr
traffic_of (EchoKind e) = Echo e.echo
traffic_of (RawKind r) = Raw r
