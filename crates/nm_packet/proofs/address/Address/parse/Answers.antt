use Rattle.std.proofs.Common.{ℕ, List, Some, ap, ◌∙◌}
use Rattle.nm_packet.specs.Octets.{long_word_at}
use Rattle.nm_packet.proofs.Texts.{IsIpv4Text-address_text, bits_from_text}
use Rattle.nm_packet.proofs.address.Address.parse.Goals as goal

pub returns-in-Ok-clause-only : goal.returns-in-Ok-clause-only
returns-in-Ok-clause-only c = λ a small e.
    let read = ap (λ (o : List ℕ). long_word_at o 0) c.octets.ensures in
    ap Some (c.from_octets.ensures ∙ read ∙ bits_from_text _ c.in-Ok.address a small e c.in-Ok.ensures)

pub returns-in-Err-clause-only : goal.returns-in-Err-clause-only
returns-in-Err-clause-only c = λ a small e. absurd (c.in-Err.ensures _ (IsIpv4Text-address_text _ a small e))
