use Rattle.nm_policy.proofs.Periods.{silent_at}
use Rattle.nm_policy.proofs.laws.silence_has_its_time.Goals as goal

pub returns : goal.returns
returns c = silent_at
