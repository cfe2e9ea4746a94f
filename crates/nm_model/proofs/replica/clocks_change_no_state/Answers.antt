use Rattle.nm_model.proofs.SameKnowledge.{same_messages}
use Rattle.nm_model.proofs.replica.clocks_change_no_state.Goals as goal

pub returns : goal.returns
returns g c = λ net p K J same k. same_messages net p K J same k
