use Rattle.std.proofs.Common.{rules, ℕ, take, ap, ◌∙◌, arith, inl, inr}
use Rattle.nm_packet.specs.Octets.{word_at}
use Rattle.nm_packet.proofs.Grammar.{IsOctets-take}
use Rattle.nm_packet.proofs.Faults.{header_sum, total_fault, no_fault, IsPacket-cut}
use Rattle.nm_packet.proofs.ipv4.tested.Goals as goal
use Rattle.nm_packet.proofs.ipv4.tested.Goals.{then-total_length-header_length-via-then-total_length-header_length, then-total_length-header_length-via-else-total_length-header_length+then-octets-total_length}

pub returns-then-total_length-header_length : goal.returns-then-total_length-header_length
returns-then-total_length-header_length c =
    let sum = header_sum c.args.octets.now _ _ c.header_length-header_length.ensures c.sum_header.ensures c.if-sum_header.false in
    let fault = total_fault c.args.octets.now (omega arith) (omega arith) (omega arith) (omega arith) sum in
    elim c.then-total_length-header_length.branch [
      | then-total_length-header_length-via-then-total_length-header_length w ↦ record { exact = fault (inl (omega arith)); packet = search rules }
      | then-total_length-header_length-via-else-total_length-header_length+then-octets-total_length w ↦ record { exact = fault (inr (omega arith)); packet = search rules }
    ]

pub invariant_of-result : goal.invariant_of-result
invariant_of-result c =
    let octets = c.args.octets.now in
    let sum = header_sum octets _ _ c.header_length-header_length.ensures c.sum_header.ensures c.if-sum_header.false in
    let packet = IsPacket-cut octets (omega arith) (omega arith) (omega arith) (omega arith) sum (omega arith) (omega arith) (omega arith) in
    let small = IsOctets-take (word_at octets 2) octets (λ i. omega (arith, c.type_inv.octets i)) in
    rw (c.from-total_length.ensures ∙ c.word_at.ensures) (packet, small)

pub returns : goal.returns
returns c =
    let sum = header_sum c.args.octets.now _ _ c.header_length-header_length.ensures c.sum_header.ensures c.if-sum_header.false in
    let none = no_fault c.args.octets.now (omega arith) (omega arith) (omega arith) (omega arith) sum (omega arith) (omega arith) in
    record {
      exact = (none, ap (λ (n : ℕ). take n c.args.octets.now) (c.from-total_length.ensures ∙ c.word_at.ensures));
      packet = invariant_of-result c;
    }
