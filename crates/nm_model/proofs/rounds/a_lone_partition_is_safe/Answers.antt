use Rattle.nm_model.proofs.RoundLemmas.{alone_safe}
use Rattle.nm_model.proofs.rounds.a_lone_partition_is_safe.Goals as goal

pub returns : goal.returns
returns g c = λ net p none K. alone_safe net p none K
