use Rattle.nm_known.proofs.Read.{not_refused}
use Rattle.nm_known.proofs.laws.what_was_written_is_not_refused.Goals as goal

pub returns : goal.returns
returns c = λ b written ok fault why. not_refused b written ok fault why
