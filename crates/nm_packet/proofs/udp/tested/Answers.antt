use Rattle.std.proofs.Common.{◌∙◌}
use Rattle.nm_packet.proofs.Datagrams.{IsDatagram-take}
use Rattle.nm_packet.proofs.udp.tested.Goals as goal

pub invariant_of-result : goal.invariant_of-result
invariant_of-result c =
    IsDatagram-take c.args.octets.now c.from-size.result (c.from-size.ensures ∙ c.word_at-length.ensures) c.if-size-lt-HEADER_OCTETS.false c.if-octets-size.false

pub returns-clause-whole : goal.returns-clause-whole
returns-clause-whole c = invariant_of-result c
