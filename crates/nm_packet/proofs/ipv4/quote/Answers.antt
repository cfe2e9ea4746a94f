use Rattle.std.proofs.Common.{◌≡◌, take, ◌∙◌}
use Rattle.std.proofs.lemmas.Result.{IfOk-weaker}
use Rattle.nm_packet.proofs.Writing.{quote_is}
use Rattle.nm_packet.proofs.ipv4.quote.Goals as goal

pub returns-clause-value : goal.returns-clause-value
returns-clause-value c =
    let quoted = quote_is c.octets-octets.result.now c.args.packet.now _ _ c.octets-octets.ensures.value c.header_length-end.ensures c.min.ensures in
    IfOk-weaker c.from_slice.result (λ v. v.items ≡ take c.min.result c.octets-octets.result.now) _ (λ v e. e ∙ quoted) c.from_slice.ensures.items
