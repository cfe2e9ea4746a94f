use Rattle.nm_frames.proofs.Telling.{quiet}
use Rattle.nm_frames.proofs.laws.a_silent_session_has_told_all.Goals as goal

pub returns : goal.returns
returns c = λ s b e unsaid. quiet s b e unsaid
