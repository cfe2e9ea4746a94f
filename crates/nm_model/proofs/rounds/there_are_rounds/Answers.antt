use Rattle.nm_model.proofs.RoundLemmas.{rounds_there}
use Rattle.nm_model.proofs.rounds.there_are_rounds.Goals as goal

pub returns : goal.returns
returns g c = λ net ok same kind. rounds_there net ok same kind
