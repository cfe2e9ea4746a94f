-- What a node sends of its own accord.
use Rattle.std.specs.Prelude.{ℕ, ◌≤◌, Bool, true, ◌||◌, ◌&&◌, not, ◌==◌, if◌then◌else◌, List, [], ◌∷◌, length, Option, Some, None, unwrap_or, slice_get}
use Rattle.std.specs.Option.{option_map_or}
use Rattle.nm_packet.specs.declared.ipv4.Ipv4Header.{Ipv4Header}
use Rattle.nm_packet.specs.declared.udp.Ports.{Ports}
use Rattle.nm_packet.specs.declared.icmp.MessageKind.{MessageKind}
use Rattle.nm_packet.specs.declared.icmp.TheConstants.{ECHO_REPLY, DESTINATION_UNREACHABLE, SOURCE_QUENCH, REDIRECT, TIME_EXCEEDED, PARAMETER_PROBLEM, ECHO_CODE, NETWORK_UNREACHABLE, PROTOCOL_UNREACHABLE, PORT_UNREACHABLE, IN_TRANSIT}
use Rattle.nm_packet.specs.declared.limits.TheConstants.{MAX_PACKET_DATA, MAX_PAYLOAD}
use Rattle.nm_packet.specs.Address.{is_martian}
use Rattle.nm_packet.specs.Ipv4.{Header, fields_of, payload_of, lowered, packet_octets, plain_header, quote_of}
use Rattle.nm_packet.specs.Udp.{udp_header, datagram_octets}
use Rattle.nm_packet.specs.Icmp.{icmp_header, icmp_fields_of, icmp_data_of, message_octets}
use Rattle.nm_topology.specs.PartValues.{IfaceValue}
use Rattle.nm_forward.specs.declared.counter.Counter.{Counter}
use Rattle.nm_forward.specs.declared.counter.Counter.TheVariants.{Quiet, ToSelf, NoRoute}
use Rattle.nm_forward.specs.declared.row.Row.{Row}
use Rattle.nm_forward.specs.declared.row.Row.TheVariants.{BadHeader, BadDestination, NotMine, Unreachable, Expired, Forward, Fragment, BadIcmp, EchoRequest, OtherIcmp, BadUdp, Delivered, ClosedPort, UnknownProtocol}
use Rattle.nm_forward.specs.Routes.{route_of}
use Rattle.nm_forward.specs.State.{NodeConfiguration, NodeStateValue, is_own, state_counted, after_originating}

-- what follows the counter of a row: nothing, a further counter alone, a packet that is sent on by
-- an interface, or one that is originated
pub data Consequence : Type 0 where
  Nothing : Consequence
  Counts : Counter → Consequence
  Sends : ℕ → List ℕ → Consequence
  Originates : ℕ → List ℕ → Consequence

-- the payload of a packet that is originated
pub data Body : Type 0 where
  -- a UDP datagram between these ports, with these data
  Datagram : Ports → List ℕ → Body
  -- an ICMP message of this kind, with this rest of the header and these data
  Message : MessageKind → List ℕ → List ℕ → Body
  -- an ICMP message, octet by octet
  Whole : List ℕ → Body

-- a packet that is to be originated, from the address of the interface by which it leaves unless it
-- has its own
pub record Draft : Type 0 where
  pub source : Option ℕ
  pub destination : ℕ
  pub time_to_live : ℕ
  pub body : Body

abbrev pub protocol_of : Body → ℕ
protocol_of (Datagram ports payload) = 17
protocol_of (Message kind rest payload) = 1
protocol_of (Whole octets) = 1

-- the octets of the payload in a packet between these addresses
abbrev pub body_octets : ℕ → ℕ → Body → List ℕ
body_octets source destination (Datagram ports payload) =
    datagram_octets source destination (udp_header ports (length payload)) payload
body_octets source destination (Message kind rest payload) =
    message_octets (icmp_header kind rest) payload
body_octets source destination (Whole octets) = octets

-- the header of a packet of this identification from this address: no options, type of service 0,
-- no flags
abbrev pub originated_header : ℕ → Draft → ℕ → Ipv4Header
originated_header identification out source = record {
  type_of_service = 0;
  identification = identification;
  time_to_live = out.time_to_live;
  protocol = protocol_of out.body;
  source = source;
  destination = out.destination;
}

-- the octets of a packet with this header
abbrev pub packet_written : Ipv4Header → Body → List ℕ
packet_written h body = let payload : List ℕ = body_octets h.source h.destination body in
    packet_octets (plain_header h (length payload)) payload

-- the greatest payload that fits a packet
abbrev pub FitsPacket : Body → Type 0
FitsPacket (Datagram ports payload) = length payload ≤ MAX_PACKET_DATA
FitsPacket (Message kind rest payload) = length payload ≤ MAX_PACKET_DATA
FitsPacket (Whole octets) = length octets ≤ MAX_PAYLOAD

-- the address of an interface, 0 if it isn't there
abbrev pub iface_address : List IfaceValue → ℕ → ℕ
iface_address ifaces via = option_map_or (λ i. i.address) (slice_get ifaces via) 0

-- the types of ICMP messages about which no error is sent: destination unreachable, source quench,
-- redirect, time exceeded, parameter problem (RFC 792; RFC 1812, section 4.3.2.7); and what has no
-- type
abbrev pub is_error_message : List ℕ → Bool
is_error_message [] = true
is_error_message (t ∷ rest) = (t == DESTINATION_UNREACHABLE) || (t == SOURCE_QUENCH)
    || (t == REDIRECT) || (t == TIME_EXCEEDED) || (t == PARAMETER_PROBLEM)

-- whether no error is sent about the packet
abbrev pub is_quiet : List ℕ → Bool
is_quiet p = not ((fields_of p).fragment_offset == 0) || is_martian (fields_of p).source
    || (((fields_of p).protocol == 1) && is_error_message (payload_of p))

-- the kinds of errors that a node sends: no route leads to the network (RFC 1812, section 5.2.7.1),
-- the protocol is unknown, nothing listens at the port (RFC 792, page 4), and the time to live is
-- over (RFC 1812, section 5.3.1)
abbrev pub no_network : MessageKind
no_network = record { message_type = DESTINATION_UNREACHABLE; code = NETWORK_UNREACHABLE }

abbrev pub no_protocol : MessageKind
no_protocol = record { message_type = DESTINATION_UNREACHABLE; code = PROTOCOL_UNREACHABLE }

abbrev pub no_port : MessageKind
no_port = record { message_type = DESTINATION_UNREACHABLE; code = PORT_UNREACHABLE }

abbrev pub expired : MessageKind
expired = record { message_type = TIME_EXCEEDED; code = IN_TRANSIT }

-- an echo reply (RFC 792, page 14)
abbrev pub echo_reply : MessageKind
echo_reply = record { message_type = ECHO_REPLY; code = ECHO_CODE }

-- the error of this kind about the packet (RFC 792)
abbrev pub error_about : List ℕ → MessageKind → Draft
error_about p kind = record {
  source = None;
  destination = (fields_of p).source;
  time_to_live = 64;
  body = Message kind (0 ∷ 0 ∷ 0 ∷ 0 ∷ []) (quote_of p);
}

-- the reply to an echo request: from the address to which that was sent, with its identifier,
-- sequence number and data (RFC 792)
abbrev pub reply_to : Header → List ℕ → Draft
reply_to h request = record {
  source = Some h.destination;
  destination = h.source;
  time_to_live = 64;
  body = Message echo_reply (icmp_fields_of request).rest (icmp_data_of request);
}

-- what a node with these interfaces, tables and identification originates
module _ (ifaces : List IfaceValue) (table : NodeConfiguration) (identification : ℕ) where
  -- by this route
  abbrev pub originate_by : Draft → Option ℕ → Consequence
  originate_by out None = Counts NoRoute
  originate_by out (Some via) =
      let source : ℕ = unwrap_or out.source (iface_address ifaces via) in
      Originates via (packet_written (originated_header identification out source) out.body)

  -- never to an address of the node itself, and only along a route (own)
  unfoldable pub originate : Draft → Consequence
  originate out = if is_own table out.destination then Counts ToSelf
      else originate_by out (route_of table.routes out.destination)

  -- an error about the packet p, of this kind (RFC 792)
  unfoldable pub error_of : List ℕ → MessageKind → Consequence
  error_of p kind = if is_quiet p then Counts Quiet else originate (error_about p kind)

  -- a reply to an echo request that came behind this header (RFC 792)
  unfoldable pub reply_of : Header → List ℕ → Consequence
  reply_of h request =
      if is_martian h.source then Counts Quiet else originate (reply_to h request)

  -- What follows a row for the packet p. Errors: network unreachable (RFC 1812, section 5.2.7.1),
  -- time exceeded (RFC 1812, section 5.3.1), port and protocol unreachable (RFC 792). A packet that
  -- is sent on has a time to live one lower and a new checksum (RFC 791, section 3.2).
  abbrev pub consequence_of : List ℕ → Row → Consequence
  consequence_of p BadHeader = Nothing
  consequence_of p BadDestination = Nothing
  consequence_of p NotMine = Nothing
  consequence_of p Unreachable = error_of p no_network
  consequence_of p Expired = error_of p expired
  consequence_of p (Forward via) =
      Sends via (packet_octets (lowered (fields_of p)) (payload_of p))
  consequence_of p Fragment = Nothing
  consequence_of p BadIcmp = Nothing
  consequence_of p (EchoRequest request) = reply_of (fields_of p) request
  consequence_of p OtherIcmp = Nothing
  consequence_of p BadUdp = Nothing
  consequence_of p Delivered = Nothing
  consequence_of p ClosedPort = error_of p no_port
  consequence_of p UnknownProtocol = error_of p no_protocol

-- the state after, and what is sent by which interface
abbrev pub Reacted : Type 0
Reacted = NodeStateValue × Option (ℕ × List ℕ)

-- the outcome of a consequence
abbrev pub concluded : Consequence → NodeStateValue → Reacted
concluded Nothing n = (n, None)
concluded (Counts c) n = (state_counted c n, None)
concluded (Sends via x) n = (n, Some (via, x))
concluded (Originates via x) n = (after_originating n, Some (via, x))
