use Rattle.std.proofs.Common.{◌∙◌, length, arith}
use Rattle.bytes.proofs.Ranges.{slice_range_shifted}
use Rattle.nm_frames.proofs.Parsing.{tail_is}
use Rattle.nm_frames.proofs.parse.data_of.Goals as goal

pub returns-clause-packet : goal.returns-clause-packet
returns-clause-packet c =
    let body = c.args.body.now in
    c.in_ok-packet.ensures ∙ c.in_ok-octets.ensures.ok
    ∙ slice_range_shifted c.args.block.now body c.args.at 21 (length body) c.requires.place.1 (omega (arith, c.requires.size)) (omega arith)
    ∙ tail_is body 21
