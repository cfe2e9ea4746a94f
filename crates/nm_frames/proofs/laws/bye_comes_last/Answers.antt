use Rattle.nm_frames.proofs.Telling.{leaves}
use Rattle.nm_frames.proofs.laws.bye_comes_last.Goals as goal

pub returns : goal.returns
returns c = λ s b e. leaves s b e
