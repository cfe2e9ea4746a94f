-- Which row of the table fits a packet that arrives at a node: the first one.
use Rattle.std.specs.Prelude.{ℕ, ◌≤◌, Bool, ◌||◌, ◌&&◌, not, ◌==◌, ◌%◌, nat_le, if◌then◌else◌, List, length, Option, Some, None, is_some}
use Rattle.nm_topology.specs.declared.node.NodeKind.{NodeKind}
use Rattle.nm_topology.specs.declared.node.NodeKind.TheVariants.{Host, Router}
use Rattle.nm_packet.specs.declared.icmp.TheConstants.{ECHO_REQUEST, ECHO_CODE}
use Rattle.nm_packet.specs.declared.limits.TheConstants.{MAX_PAYLOAD}
use Rattle.nm_packet.specs.Address.{is_martian}
use Rattle.nm_packet.specs.Ipv4.{Header as Ipv4Fields, header_fault, cut_of, fields_of, payload_of}
use Rattle.nm_packet.specs.Udp.{udp_fault, udp_cut_of, udp_fields_of}
use Rattle.nm_packet.specs.Icmp.{icmp_fault, icmp_fields_of, IcmpHeader}
use Rattle.nm_forward.specs.declared.counter.Counter.{Counter}
use Rattle.nm_forward.specs.declared.counter.Counter.TheVariants as count
use Rattle.nm_forward.specs.declared.row.Row.{Row}
use Rattle.nm_forward.specs.declared.row.Row.TheVariants.{BadHeader, BadDestination, NotMine, Unreachable, Expired, Forward, Fragment, BadIcmp, EchoRequest, OtherIcmp, BadUdp, Delivered, ClosedPort, UnknownProtocol}
use Rattle.nm_forward.specs.Routes.{route_of}
use Rattle.nm_forward.specs.State.{NodeConfiguration, is_own, listens}

-- a packet for another node, to which this route leads (RFC 1812, sections 5.2.7.1 and 5.3.1). That
-- the route is looked up before the time to live is tested is own.
abbrev pub transit_row : NodeKind → Option ℕ → ℕ → Row
transit_row Host route time_to_live = NotMine
transit_row Router None time_to_live = Unreachable
transit_row Router (Some via) time_to_live = if nat_le time_to_live 1 then Expired else Forward via

-- whether a message of these fields is an echo request (RFC 792, page 14)
abbrev pub is_echo_request : IcmpHeader → Bool
is_echo_request h = (h.message_type == ECHO_REQUEST) && (h.code == ECHO_CODE)

-- an ICMP message for this node
abbrev pub icmp_row : List ℕ → Row
icmp_row payload = if is_some (icmp_fault payload) then BadIcmp
    else (if is_echo_request (icmp_fields_of payload) then EchoRequest payload else OtherIcmp)

-- a UDP datagram for this node
abbrev pub udp_row : NodeConfiguration → Ipv4Fields → List ℕ → Row
udp_row table h payload = if is_some (udp_fault h.source h.destination payload) then BadUdp
    else (if listens table (udp_fields_of (udp_cut_of payload)).destination_port then Delivered
    else ClosedPort)

-- more fragments follow, or others came before (RFC 791, section 3.1)
abbrev pub is_fragment : Ipv4Fields → Bool
is_fragment h = (h.flags % 2 == 1) || not (h.fragment_offset == 0)

-- a packet for this node; its time to live is not tested
abbrev pub local_row : NodeConfiguration → Ipv4Fields → List ℕ → Row
local_row table h payload = if is_fragment h then Fragment
    else (if h.protocol == 1 then icmp_row payload
    else (if h.protocol == 17 then udp_row table h payload else UnknownProtocol))

-- a packet that passes the header test
unfoldable pub packet_row : NodeConfiguration → Ipv4Fields → List ℕ → Row
packet_row table h payload = if is_martian h.destination then BadDestination
    else (if is_own table h.destination then local_row table h payload
    else transit_row table.kind (route_of table.routes h.destination) h.time_to_live)

-- octets that arrive
abbrev pub arrival_row : NodeConfiguration → List ℕ → Row
arrival_row table x = if is_some (header_fault x) then BadHeader
    else packet_row table (fields_of (cut_of x)) (payload_of (cut_of x))

-- the counter that rises
abbrev pub row_counter : Row → Counter
row_counter BadHeader = count.Header
row_counter BadDestination = count.BadDest
row_counter NotMine = count.NotMine
row_counter Unreachable = count.NoNet
row_counter Expired = count.Ttl
row_counter (Forward via) = count.Forwarded
row_counter Fragment = count.Fragment
row_counter BadIcmp = count.IcmpBad
row_counter (EchoRequest request) = count.Echo
row_counter OtherIcmp = count.Icmp
row_counter BadUdp = count.UdpBad
row_counter Delivered = count.Udp
row_counter ClosedPort = count.Port
row_counter UnknownProtocol = count.Proto

-- what the consequence of a row asks of a packet of this time to live
abbrev pub IsPossible : Row → ℕ → Type 0
IsPossible (Forward via) time_to_live = 1 ≤ time_to_live
IsPossible (EchoRequest request) time_to_live = length request ≤ MAX_PAYLOAD
IsPossible row time_to_live = Unit {0}
