use Rattle.nm_model.proofs.Accepting.{under_set}
use Rattle.nm_model.proofs.replica.more_of_one_channel_is_more.Goals as goal

pub returns : goal.returns
returns g c = λ net p K d a u. under_set net p K d a u
