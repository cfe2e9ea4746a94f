-- What a node does with a packet that arrives, or that one of its sources makes.
use Rattle.std.specs.Prelude.{ℕ, ◌==◌, ◌≤◌, if◌then◌else◌, List, [], length, Option, Some, None, slice_get}
use Rattle.nm_base.specs.declared.event.Origin.{Origin}
use Rattle.nm_base.specs.declared.event.Origin.TheVariants.{Arrival, Source as FromSource}
use Rattle.nm_packet.specs.declared.limits.TheConstants.{MAX_PACKET_DATA, MAX_PAYLOAD}
use Rattle.nm_packet.specs.Ipv4.{cut_of}
use Rattle.nm_topology.specs.declared.traffic.Source.{Source}
use Rattle.nm_topology.specs.declared.traffic.Cbr.{Cbr as CbrTraffic}
use Rattle.nm_topology.specs.declared.traffic.Echo.{Echo as EchoTraffic}
use Rattle.nm_topology.specs.declared.traffic.Traffic.{Traffic}
use Rattle.nm_topology.specs.declared.traffic.Traffic.TheVariants.{Cbr, Echo, Raw}
use Rattle.nm_topology.specs.PartValues.{IfaceValue}
use Rattle.nm_topology.specs.TopologyValue.{TopologyValue}
use Rattle.nm_forward.specs.declared.row.Row.{Row}
use Rattle.nm_forward.specs.declared.counter.Counter.TheVariants as count
use Rattle.nm_forward.specs.State.{NodeConfiguration, NodeStateValue, table_of, state_counted}
use Rattle.nm_forward.specs.Row.{arrival_row, row_counter}
use Rattle.nm_forward.specs.Originate.{Sends, Datagram, Whole, Draft, originate, consequence_of, Reacted, concluded}

-- a packet of this row: the row's counter rises, and then comes what follows
abbrev pub followed : List IfaceValue → NodeConfiguration → NodeStateValue → List ℕ → Row
    → Reacted
followed ifaces table n p row = concluded (consequence_of ifaces table n.identification p row)
    (state_counted (row_counter row) n)

-- octets arrive
unfoldable pub arrived : List IfaceValue → NodeConfiguration → NodeStateValue → List ℕ → Reacted
arrived ifaces table n x = followed ifaces table n (cut_of x) (arrival_row table x)

-- the packet of a `cbr` source: its data, but without data not the octet in their place
abbrev pub datagram_of : CbrTraffic → List ℕ → Draft
datagram_of c x = record {
  source = None;
  destination = c.to;
  time_to_live = c.flow.ttl;
  body = Datagram (record { source = c.source_port; destination = c.destination_port })
      (if c.flow.size == 0 then [] else x);
}

-- the packet of an `echo` source, from a whole ICMP message
abbrev pub request_of : EchoTraffic → List ℕ → Draft
request_of e x = record {
  source = None;
  destination = e.to;
  time_to_live = e.flow.ttl;
  body = Whole x;
}

-- A source of the node makes a packet. The octets of a `raw` source go by its interface as they
-- are.
abbrev pub handed : List IfaceValue → NodeConfiguration → NodeStateValue → Traffic → List ℕ
    → Reacted
handed ifaces table n (Cbr c) x =
    concluded (originate ifaces table n.identification (datagram_of c x)) n
handed ifaces table n (Echo e) x =
    concluded (originate ifaces table n.identification (request_of e x)) n
handed ifaces table n (Raw r) x = concluded (Sends r.via x) (state_counted count.Raw n)

-- only a source of the node gives anything to it
abbrev pub handed_by : TopologyValue → ℕ → NodeStateValue → Option Source → List ℕ → Reacted
handed_by t v n None x = (n, None)
handed_by t v n (Some s) x =
    if s.node == v then handed t.ifaces (table_of t v) n s.traffic x else (n, None)

-- what node v of the network t does with the packet x in the state n: the state after, and at most
-- one packet, with the interface by which it is sent
unfoldable pub reaction : TopologyValue → ℕ → NodeStateValue → Origin → List ℕ → Reacted
reaction t v n (Arrival i) x = arrived t.ifaces (table_of t v) n x
reaction t v n (FromSource j) x = handed_by t v n (slice_get t.sources j) x

-- what a source gives fits a packet, with the headers that it gets
abbrev pub FitsHeaders : Traffic → List ℕ → Type 0
FitsHeaders (Cbr c) x = length x ≤ MAX_PACKET_DATA
FitsHeaders (Echo e) x = length x ≤ MAX_PAYLOAD
FitsHeaders (Raw r) x = Unit {0}

abbrev pub FitsSource : Option Source → List ℕ → Type 0
FitsSource None x = Unit {0}
FitsSource (Some s) x = FitsHeaders s.traffic x

abbrev pub FitsOrigin : TopologyValue → Origin → List ℕ → Type 0
FitsOrigin t (Arrival i) x = Unit {0}
FitsOrigin t (FromSource j) x = FitsSource (slice_get t.sources j) x
