use Rattle.nm_laws.proofs.Meeting.{parted}
use Rattle.nm_laws.proofs.sessions.both_part_with_bye.Goals as goal

pub returns : goal.returns
returns c = λ a b near ab ba turns s t talk silent other_silent. parted a b near ab ba turns s t talk silent other_silent
