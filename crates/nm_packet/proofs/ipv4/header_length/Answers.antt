use Rattle.std.proofs.Common.{arith}
use Rattle.std.proofs.lemmas.Grind.{common_steps}
use Rattle.nm_packet.proofs.ipv4.header_length.Goals as goal

pub returns : goal.returns
returns c = grind (arith, common_steps)
