use Rattle.nm_frames.proofs.Feeding.{same_stream}
use Rattle.nm_frames.proofs.laws.cuts_do_not_matter.Goals as goal

pub returns : goal.returns
returns c = same_stream
