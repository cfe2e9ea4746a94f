use Rattle.std.proofs.Common.{◌^◌, Some, ap, sym, ◌∙◌}
use Rattle.nm_packet.specs.Address.{address_text}
use Rattle.nm_topology.proofs.Searches.{text-is}
use Rattle.nm_topology.proofs.parse.forms.address_of.Goals as goal

pub returns-in-Some : goal.returns-in-Some
returns-in-Some c =
    ap Some c.from_bits.ensures ∙ sym c.in-Some.is
    ∙ text-is (2 ^ 32) address_text c.args.text.now c.bits_of.result c.bits_of.ensures.found c.bits_of.ensures.only

pub returns-in-None : goal.returns-in-None
returns-in-None c =
    sym c.in-None.is ∙ text-is (2 ^ 32) address_text c.args.text.now c.bits_of.result c.bits_of.ensures.found c.bits_of.ensures.only
