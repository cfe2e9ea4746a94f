use Rattle.nm_forward.proofs.Sizes.{reaction-sized}
use Rattle.nm_forward.proofs.laws.a_sent_packet_fits.Goals as goal

pub returns : goal.returns
returns c = λ t v n o x s least most fits e. reaction-sized t v n x least most o fits s e
