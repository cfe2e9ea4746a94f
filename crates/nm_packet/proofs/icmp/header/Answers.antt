use Rattle.std.proofs.Common.{rules, ℕ, ◌+◌, ◌-◌, List, [], ap, ◌∙◌}
use Rattle.nm_packet.specs.Checksum.{word_sum, folded}
use Rattle.nm_packet.specs.Icmp.{icmp_header, icmp_octets}
use Rattle.nm_packet.proofs.Messages.{icmp_sum}
use Rattle.nm_packet.proofs.icmp.header.Goals as goal

pub returns : goal.returns
returns c =
    let h = icmp_header c.args.kind c.args.rest in
    let first = c.sum_words.ensures ∙ ap (λ (l : List ℕ). folded (0 + word_sum l)) c.header_with.ensures in
    let sum = icmp_sum h c.args.«data».now c.sum_words.result c.sum_words-sum.result (search rules) first c.sum_words-sum.ensures in
    c.header_with-2.ensures ∙ ap (λ (s : ℕ). icmp_octets (record h { checksum = 65535 - s }) []) sum
