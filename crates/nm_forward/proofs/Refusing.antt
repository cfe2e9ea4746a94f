-- A packet that would be sent on, and that a port drops; and one that is passed on.
use Rattle.std.proofs.Common.{◌≡◌, ℕ, List, length, Option, Some, None, refl, sym, ap, ◌∙◌, arith, cond}
use Rattle.std.specs.Prelude.{is_some}
use Rattle.std.proofs.lemmas.List.{length-take, length-drop}
use Rattle.nm_iface.specs.PortValue.{IsRefusedAt, PortValue}
use Rattle.nm_packet.specs.declared.fault.HeaderFault.{HeaderFault}
use Rattle.nm_packet.specs.Ipv4.{IsPacket, header_fault, header_length_of, header_of, cut_of, fields_of, payload_of, packet_octets, lowered}
use Rattle.nm_topology.specs.PartValues.{IfaceValue}
use Rattle.nm_forward.specs.declared.reaction.Reaction.TheVariants.{Pass, Refused}
use Rattle.nm_forward.specs.declared.row.Row.TheVariants.{BadHeader, Forward}
use Rattle.nm_forward.specs.State.{NodeConfiguration, NodeStateValue, state_counted}
use Rattle.nm_forward.specs.Row.{arrival_row, packet_row, row_counter}
use Rattle.nm_forward.specs.Reaction.{arrived, followed}
use Rattle.nm_forward.specs.Reacting.{IsReaction}
use Rattle.nm_forward.proofs.Sizes.{length-packet}

-- a packet one hop on is as long as before
abbrev sent_on : List ℕ → List ℕ
sent_on p = packet_octets (lowered (fields_of p)) (payload_of p)

same-length : (p : List ℕ) → IsPacket p → length (sent_on p) ≡ length p
same-length p is =
    let e = length-packet (lowered (fields_of p)) (payload_of p) in
    let o = length-drop 20 (header_of p) in
    let t = length-take (header_length_of p) p in
    let d = length-drop (header_length_of p) p in
    omega (arith, e, o, t, d, is.ihl, is.header)

module _ (ifaces : List IfaceValue) (table : NodeConfiguration) (n : NodeStateValue) (via : ℕ) where
  -- what a router does with a packet that it would send on to a port which drops it
  pub refused-is : (ports : List (Option PortValue)) (p : List ℕ) → IsPacket p
      → ((y : List ℕ) → length y ≡ length p → IsRefusedAt ports via y)
      → IsReaction ports (Refused via) (state_counted (row_counter (Forward via)) n)
      (followed ifaces table n p (Forward via))
  refused-is ports p is drops = (refl, (sent_on p, refl, drops (sent_on p) (same-length p is)))

  -- and with one that it passes on
  pub passed-is : (ports : List (Option PortValue)) (x y : List ℕ) → header_fault x ≡ None
      → cut_of x ≡ x → packet_row table (fields_of x) (payload_of x) ≡ Forward via
      → y ≡ packet_octets (lowered (fields_of x)) (payload_of x)
      → IsReaction ports (Pass via y) (state_counted (row_counter (Forward via)) n)
      (arrived ifaces table n x)
  unfolding arrived
  passed-is ports x y passed whole row lowered_is =
      let row_is : arrival_row table x ≡ Forward via =
      ap (λ (f : Option HeaderFault).
      cond (is_some f) BadHeader (packet_row table (fields_of (cut_of x)) (payload_of (cut_of x))))
      passed ∙ ap (λ z. packet_row table (fields_of z) (payload_of z)) whole ∙ row in
      let after : followed ifaces table n (cut_of x) (arrival_row table x) ≡ followed ifaces table n x (Forward via) = (λ k. followed ifaces table n (whole k) (row_is k)) in (
        sym (ap (λ z. z.0) after),
        ap (λ z. z.1) after ∙ ap (λ z. Some (via, z)) (sym lowered_is),
      )
