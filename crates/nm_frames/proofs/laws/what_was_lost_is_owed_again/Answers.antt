use Rattle.nm_frames.proofs.Telling.{anew, asked_for}
use Rattle.nm_frames.proofs.laws.what_was_lost_is_owed_again.Goals as goal

pub returns-clause-asked : goal.returns-clause-asked
returns-clause-asked c = λ s t h e. asked_for s t h e

pub returns-clause-broken : goal.returns-clause-broken
returns-clause-broken c = λ s. anew s
