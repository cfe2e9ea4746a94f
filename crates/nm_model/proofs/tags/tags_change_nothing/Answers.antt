use Rattle.nm_model.proofs.Untagging.{list_same}
use Rattle.nm_model.proofs.tags.tags_change_nothing.Goals as goal

pub returns : goal.returns
returns g c = λ net tags n. list_same net tags n
