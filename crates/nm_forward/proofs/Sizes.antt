-- What a node sends is a packet's octets.
use Rattle.std.proofs.Common.{◌≡◌, ℕ, ◌+◌, ◌*◌, ◌/◌, ◌%◌, ◌≤◌, Bool, true, false, cond, not, ◌||◌, List, [], ◌∷◌, length, take, drop, Option, Some, None, refl, sym, subst, arith, length-append}
use Rattle.std.specs.Prelude.{◌==◌, nat_lt, is_some, slice_get, slice_index}
use Rattle.std.proofs.lemmas.Bool.Decides.{nat_tests}
use Rattle.std.proofs.lemmas.List.{length-take, length-drop, get_or-take}
use Rattle.nm_base.specs.declared.event.Origin.{Origin}
use Rattle.nm_base.specs.declared.event.Origin.TheVariants.{Arrival, Source as FromSource}
use Rattle.nm_packet.specs.declared.fault.HeaderFault.TheVariants.{Short, Version, Ihl, Checksum, Total}
use Rattle.nm_packet.specs.declared.ipv4.Ipv4Header.{Ipv4Header}
use Rattle.nm_packet.specs.declared.udp.Ports.{Ports}
use Rattle.nm_packet.specs.declared.icmp.MessageKind.{MessageKind}
use Rattle.nm_packet.specs.Octets.{word_at}
use Rattle.nm_packet.specs.Checksum.{folded, word_sum}
use Rattle.nm_packet.specs.Ipv4.{Header, header_fault, header_length_of, header_of, cut_of, fields_of, payload_of, packet_octets, plain_header, lowered, quote_of}
use Rattle.nm_packet.specs.Icmp.{icmp_fields_of, icmp_data_of}
use Rattle.nm_topology.specs.declared.traffic.Source.{Source}
use Rattle.nm_topology.specs.declared.traffic.Traffic.{Traffic}
use Rattle.nm_topology.specs.declared.traffic.Traffic.TheVariants.{Cbr, Echo, Raw}
use Rattle.nm_topology.specs.TopologyValue.{TopologyValue}
use Rattle.nm_forward.specs.declared.counter.Counter.TheVariants as count
use Rattle.nm_forward.specs.State.{NodeStateValue, table_of, state_counted}
use Rattle.nm_forward.specs.Row.{arrival_row, row_counter}
use Rattle.nm_forward.specs.Originate.{consequence_of, Sends, Body, Datagram, Message, Draft, body_octets, originated_header, packet_written, originate, echo_reply, error_about, reply_to}
use Rattle.nm_forward.specs.Reaction.{arrived, handed, handed_by, reaction, FitsHeaders, FitsSource, FitsOrigin}
use Rattle.nm_forward.proofs.Sending.{OnSent, concluded-sent, originate-sent, consequence_of-sent, forwarded-from, request-from}

-- the octets of a packet
pub length-packet : (h : Header) (payload : List ℕ)
    → length (packet_octets h payload) ≡ 20 + (length h.options + length payload)
length-packet h payload = let e = length-append h.options payload in omega (arith, e)

-- a payload of a packet, whatever its addresses
abbrev pub IsSmall : Body → Type 0
IsSmall body = (source destination : ℕ) → length (body_octets source destination body) ≤ 65515

abbrev pub IsSized : ℕ → List ℕ → Type 0
IsSized via x = (1 ≤ length x) × (length x ≤ 65535)

pub written-sized : (h : Ipv4Header) (body : Body) (via : ℕ) → IsSmall body
    → IsSized via (packet_written h body)
written-sized h body via small =
    let octets : List ℕ = body_octets h.source h.destination body in
    let s : length octets ≤ 65515 = small h.source h.destination in
    let e = length-packet (plain_header h (length octets)) octets in
    (omega (arith, e), omega (arith, e, s))

pub small-datagram : (ports : Ports) (payload : List ℕ) → length payload ≤ 65507
    → IsSmall (Datagram ports payload)
small-datagram ports payload h = λ source destination. omega (arith, h)

pub small-message : (kind : MessageKind) (rest payload : List ℕ)
    → length rest + length payload ≤ 65511 → IsSmall (Message kind rest payload)
small-message kind rest payload h =
    λ source destination. omega (arith, h, length-append rest payload)

-- an error is small
pub small-quote : (p : List ℕ) → length (quote_of p) ≤ 68
small-quote p =
    let n : ℕ = slice_index p 0 % 16 in
    omega (
      arith,
      length-append (header_of p) (take 8 (payload_of p)),
      length-take
          (header_length_of p) p,
      length-take 8 (payload_of p),
    )

-- a reply is as small as its request
pub small-reply : (request : List ℕ) → length request ≤ 65515
    → length (icmp_fields_of request).rest + length (icmp_data_of request) ≤ 65511
small-reply request h =
    omega (arith, h, length-take 4 (drop 4 request), length-drop 4 request, length-drop 8 request)

-- the tests that a packet passed
all_passed : (a b c d e : Bool)
    → is_some (cond a (Some Short)
    (cond b (Some Version)
    (cond c (Some Ihl) (cond d (Some Checksum) (cond e (Some Total) None))))) ≡ false
    → (c ≡ false) × (e ≡ false)
all_passed true b c d e f = cc
all_passed false true c d e f = cc
all_passed false false true d e f = cc
all_passed false false false true e f = cc
all_passed false false false false true f = cc
all_passed false false false false false f = (refl, refl)

-- the header of a packet that passed has 20 octets or more, also after the cut
pub header-least : (x : List ℕ) → is_some (header_fault x) ≡ false
    → 20 ≤ header_length_of (cut_of x)
header-least x e =
    let total : ℕ = word_at x 2 in
    let size : ℕ = header_length_of x in
    let h = all_passed (nat_lt (length x) 20) (not (slice_index x 0 / 16 == 4))
    (nat_lt size 20 || nat_lt (length x) size)
    (not (folded (word_sum (header_of x)) == 65535))
    (nat_lt total size || nat_lt (length x) total) e in
    let least : 20 ≤ size = grind (arith, nat_tests, h.0) in
    let within : size ≤ total = grind (arith, nat_tests, h.1) in
    let same : slice_index (take total x) 0 ≡ slice_index x 0 =
    get_or-take total x 0 0 (omega arith) in
    subst (λ (n : ℕ). 20 ≤ 4 * (n % 16)) (sym same) least

pub forward-sized : (p : List ℕ) (via : ℕ) → length p ≤ 65535 → 20 ≤ header_length_of p
    → IsSized via (packet_octets (lowered (fields_of p)) (payload_of p))
forward-sized p via h least =
    let e = length-packet (lowered (fields_of p)) (payload_of p) in
    let o = length-drop 20 (header_of p) in
    let t = length-take (header_length_of p) p in
    let d = length-drop (header_length_of p) p in
    (omega (arith, e), omega (arith, e, o, t, d, h, least))

pub cut-length : (x : List ℕ) → length (cut_of x) ≤ length x
cut-length x = omega (arith, length-take (word_at x 2) x)

module _ (t : TopologyValue) (v : ℕ) (n : NodeStateValue) (x : List ℕ) (least : 1 ≤ length x)
    (most : length x ≤ 65535) where
  out-sized : (out : Draft) → IsSmall out.body
      → OnSent IsSized (originate t.ifaces (table_of t v) n.identification out)
  out-sized out small = originate-sent IsSized t.ifaces (table_of t v) n.identification out
      (λ via source e. written-sized
      (originated_header n.identification out source) out.body via small)

  arrived-sized : (s : ℕ × List ℕ) → (arrived t.ifaces (table_of t v) n x).1 ≡ Some s
      → IsSized s.0 s.1
  unfolding arrived
  arrived-sized s e =
      let p : List ℕ = cut_of x in
      let short = cut-length x in
      concluded-sent IsSized
      (consequence_of t.ifaces (table_of t v) n.identification p (arrival_row (table_of t v) x))
      (state_counted (row_counter (arrival_row (table_of t v) x)) n) s
      (consequence_of-sent IsSized t.ifaces (table_of t v) n.identification p
      (arrival_row (table_of t v) x)
      (λ kind. out-sized (error_about p kind)
      (small-message kind (0 ∷ 0 ∷ 0 ∷ 0 ∷ []) (quote_of p)
      (let q = small-quote p in omega (arith, q))))
      (λ request f.
      let from = request-from (table_of t v) x request f in
      let size : length request ≤ 65515 =
      subst (λ r. length r ≤ 65515) (sym from.1)
      (let g = header-least x from.0 in let d =
      length-drop (header_length_of p) p in omega (arith, d, g, short, most)) in
      out-sized (reply_to (fields_of p) request) (small-message echo_reply _ _ (small-reply request size)))
      (λ via f. forward-sized p via (omega (arith, short, most))
      (header-least x (forwarded-from (table_of t v) x via f).0)))
      e

  handed-sized : (traffic : Traffic) → FitsHeaders traffic x → (s : ℕ × List ℕ)
      → (handed t.ifaces (table_of t v) n traffic x).1 ≡ Some s → IsSized s.0 s.1
  handed-sized (Cbr c) fits s e =
      concluded-sent IsSized (originate t.ifaces (table_of t v) n.identification _) n s
      (out-sized _ (small-datagram
      (record { source = c.source_port; destination = c.destination_port }) _
      (sent (c.flow.size == 0)))) e where
        sent : (b : Bool) → length (cond b [] x) ≤ 65507
        sent true = omega arith
        sent false = fits
  handed-sized (Echo c) fits s e = concluded-sent IsSized
      (originate t.ifaces (table_of t v) n.identification _) n s
      (out-sized _ (λ source destination. fits)) e
  handed-sized (Raw r) fits s e = concluded-sent IsSized (Sends r.via x) (state_counted count.Raw n) s
      (least, most) e

  by-sized : (o : Option Source) → FitsSource o x → (s : ℕ × List ℕ)
      → (handed_by t v n o x).1 ≡ Some s → IsSized s.0 s.1
  by-sized None fits s e = cc
  by-sized (Some z) fits s e = at (z.node == v) e where
    at : (b : Bool) → (cond b (handed t.ifaces (table_of t v) n z.traffic x) (n, None)).1 ≡ Some s
        → IsSized s.0 s.1
    at false f = cc
    at true f = handed-sized z.traffic fits s f

  pub reaction-sized : (o : Origin) → FitsOrigin t o x → (s : ℕ × List ℕ)
      → (reaction t v n o x).1 ≡ Some s → IsSized s.0 s.1
  unfolding reaction
  reaction-sized (Arrival i) fits s e = arrived-sized s e
  reaction-sized (FromSource j) fits s e = by-sized (slice_get t.sources j) fits s e
