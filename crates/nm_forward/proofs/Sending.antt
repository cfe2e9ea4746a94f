-- What holds of each packet that a node sends, and of the interface by which it is sent.
use Rattle.std.proofs.Common.{◌≡◌, ℕ, Bool, true, false, cond, List, Option, Some, None, refl, subst}
use Rattle.std.specs.Prelude.{is_some, nat_le, ◌==◌}
use Rattle.nm_packet.specs.declared.icmp.MessageKind.{MessageKind}
use Rattle.nm_packet.specs.Address.{is_martian}
use Rattle.nm_packet.specs.Ipv4.{Header, header_fault, cut_of, fields_of, payload_of, packet_octets, lowered}
use Rattle.nm_packet.specs.Udp.{udp_fault, udp_cut_of, udp_fields_of}
use Rattle.nm_packet.specs.Icmp.{icmp_fault, icmp_fields_of}
use Rattle.nm_topology.specs.declared.node.NodeKind.{NodeKind}
use Rattle.nm_topology.specs.declared.node.NodeKind.TheVariants.{Host, Router}
use Rattle.nm_topology.specs.PartValues.{IfaceValue}
use Rattle.nm_forward.specs.declared.counter.Counter.TheVariants.{Quiet, ToSelf}
use Rattle.nm_forward.specs.declared.row.Row.{Row}
use Rattle.nm_forward.specs.declared.row.Row.TheVariants.{BadHeader, BadDestination, NotMine, Unreachable, Expired, Forward, Fragment, BadIcmp, EchoRequest, OtherIcmp, BadUdp, Delivered, ClosedPort, UnknownProtocol}
use Rattle.nm_forward.specs.Routes.{route_of}
use Rattle.nm_forward.specs.State.{NodeConfiguration, NodeStateValue, is_own, listens}
use Rattle.nm_forward.specs.Row.{transit_row, is_echo_request, icmp_row, udp_row, is_fragment, local_row, packet_row, arrival_row}
use Rattle.nm_forward.specs.Originate.{consequence_of, Consequence, Nothing, Counts, Sends, Originates, Draft, originated_header, packet_written, originate_by, originate, is_quiet, no_network, no_protocol, no_port, expired, error_about, error_of, reply_to, reply_of, concluded}

-- of the packet that a consequence sends, and its interface
abbrev pub OnSent : (ℕ → List ℕ → Type 0) → Consequence → Type 0
OnSent P Nothing = Unit {0}
OnSent P (Counts c) = Unit {0}
OnSent P (Sends via x) = P via x
OnSent P (Originates via x) = P via x

pub concluded-sent : (P : ℕ → List ℕ → Type 0) (c : Consequence) (n : NodeStateValue)
    (s : ℕ × List ℕ) → OnSent P c → (concluded c n).1 ≡ Some s → P s.0 s.1
concluded-sent P Nothing n s h e = cc
concluded-sent P (Counts c) n s h e = cc
concluded-sent P (Sends via x) n s h e = let g : ◌≡◌ {A = ℕ × List ℕ} (via, x) s =
    cc in subst (λ z. P z.0 z.1) g h
concluded-sent P (Originates via x) n s h e = let g : ◌≡◌ {A = ℕ × List ℕ} (via, x) s =
    cc in subst (λ z. P z.0 z.1) g h

module _ (P : ℕ → List ℕ → Type 0) (ifaces : List IfaceValue) (table : NodeConfiguration)
    (identification : ℕ) where
  -- a packet that is originated leaves by a route
  pub originate-sent : (out : Draft)
      → ((via source : ℕ) → route_of table.routes out.destination ≡ Some via
      → P via (packet_written (originated_header identification out source) out.body))
      → OnSent P (originate ifaces table identification out)
  unfolding originate
  originate-sent out h = by (is_own table out.destination)
      (route_of table.routes out.destination) h where
        by : (b : Bool) (o : Option ℕ)
            → ((via source : ℕ) → o ≡ Some via
            → P via (packet_written (originated_header identification out source) out.body))
            → OnSent P (cond b (Counts ToSelf) (originate_by ifaces table identification out o))
        by true o f = tt
        by false None f = tt
        by false (Some via) f = f via _ refl

  unless-quiet : (b : Bool) (c : Consequence) → OnSent P c → OnSent P (cond b (Counts Quiet) c)
  unless-quiet true c h = tt
  unless-quiet false c h = h

  pub error_of-sent : (p : List ℕ) (kind : MessageKind)
      → OnSent P (originate ifaces table identification (error_about p kind))
      → OnSent P (error_of ifaces table identification p kind)
  unfolding error_of
  error_of-sent p kind h = unless-quiet (is_quiet p)
      (originate ifaces table identification (error_about p kind)) h

  pub reply_of-sent : (h : Header) (request : List ℕ)
      → OnSent P (originate ifaces table identification (reply_to h request))
      → OnSent P (reply_of ifaces table identification h request)
  unfolding reply_of
  reply_of-sent h request g = unless-quiet (is_martian h.source)
      (originate ifaces table identification (reply_to h request)) g

  pub consequence_of-sent : (p : List ℕ) (row : Row)
      → ((kind : MessageKind)
      → OnSent P (originate ifaces table identification (error_about p kind)))
      → ((request : List ℕ) → row ≡ EchoRequest request
      → OnSent P (originate ifaces table identification (reply_to (fields_of p) request)))
      → ((via : ℕ) → row ≡ Forward via
      → P via (packet_octets (lowered (fields_of p)) (payload_of p)))
      → OnSent P (consequence_of ifaces table identification p row)
  consequence_of-sent p BadHeader errors replies forward = tt
  consequence_of-sent p BadDestination errors replies forward = tt
  consequence_of-sent p NotMine errors replies forward = tt
  consequence_of-sent p Unreachable errors replies forward = error_of-sent p no_network (errors no_network)
  consequence_of-sent p Expired errors replies forward = error_of-sent p expired (errors expired)
  consequence_of-sent p (Forward via) errors replies forward = forward via refl
  consequence_of-sent p Fragment errors replies forward = tt
  consequence_of-sent p BadIcmp errors replies forward = tt
  consequence_of-sent p (EchoRequest request) errors replies forward = reply_of-sent
      (fields_of p) request (replies request refl)
  consequence_of-sent p OtherIcmp errors replies forward = tt
  consequence_of-sent p BadUdp errors replies forward = tt
  consequence_of-sent p Delivered errors replies forward = tt
  consequence_of-sent p ClosedPort errors replies forward = error_of-sent p no_port (errors no_port)
  consequence_of-sent p UnknownProtocol errors replies forward = error_of-sent p no_protocol (errors no_protocol)

-- where a row that sends something comes from: a route, or the payload; the header test passed
abbrev pub ComesFrom : NodeConfiguration → List ℕ → Row → Type 0
ComesFrom table x (Forward via) =
    (is_some (header_fault x) ≡ false) ×
    (route_of table.routes (fields_of (cut_of x)).destination ≡ Some via)
ComesFrom table x (EchoRequest request) =
    (is_some (header_fault x) ≡ false) × (request ≡ payload_of (cut_of x))
ComesFrom table x row = Unit {0}

module _ (table : NodeConfiguration) (x : List ℕ) where
  either : (b : Bool) (r q : Row) → ComesFrom table x r → ComesFrom table x q
      → ComesFrom table x (cond b r q)
  either true r q f g = f
  either false r q f g = g

  module _ (passed : is_some (header_fault x) ≡ false) where
    abbrev h : Header
    h = fields_of (cut_of x)

    abbrev payload : List ℕ
    payload = payload_of (cut_of x)

    icmp : ComesFrom table x (icmp_row payload)
    icmp = either (is_some (icmp_fault payload)) BadIcmp _ tt
        (either (is_echo_request (icmp_fields_of payload)) (EchoRequest payload) OtherIcmp
        (passed, refl) tt)

    udp : ComesFrom table x (udp_row table h payload)
    udp = either (is_some (udp_fault h.source h.destination payload)) BadUdp _ tt
        (either (listens table
        (udp_fields_of (udp_cut_of payload)).destination_port) Delivered ClosedPort tt tt)

    local : ComesFrom table x (local_row table h payload)
    local = either (is_fragment h) Fragment _ tt
        (either (h.protocol == 1) (icmp_row payload) _ icmp
        (either (h.protocol == 17) (udp_row table h payload) UnknownProtocol udp tt))

    transit : (kind : NodeKind) (o : Option ℕ) (time_to_live : ℕ)
        → route_of table.routes h.destination ≡ o
        → ComesFrom table x (transit_row kind o time_to_live)
    transit Host o time_to_live e = tt
    transit Router None time_to_live e = tt
    transit Router (Some via) time_to_live e = either (nat_le time_to_live 1) Expired
        (Forward via) tt (passed, e)

    packet : ComesFrom table x (packet_row table h payload)
    unfolding packet_row
    packet = either (is_martian h.destination) BadDestination _ tt
        (either (is_own table h.destination) (local_row table h payload) _ local
        (transit table.kind (route_of table.routes h.destination) h.time_to_live refl))

  pub arrival_row-from : ComesFrom table x (arrival_row table x)
  arrival_row-from = by (is_some (header_fault x)) refl where
    by : (b : Bool) → is_some (header_fault x) ≡ b
        → ComesFrom table x
        (cond b BadHeader (packet_row table (fields_of (cut_of x)) (payload_of (cut_of x))))
    by true e = tt
    by false e = packet e

  pub forwarded-from : (via : ℕ) → arrival_row table x ≡ Forward via
      → ComesFrom table x (Forward via)
  forwarded-from via e = subst (ComesFrom table x) e arrival_row-from

  pub request-from : (request : List ℕ) → arrival_row table x ≡ EchoRequest request
      → ComesFrom table x (EchoRequest request)
  request-from request e = subst (ComesFrom table x) e arrival_row-from
