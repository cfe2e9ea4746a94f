use Rattle.nm_model.proofs.SameKnowledge.{same_state, same_within, same_promise}
use Rattle.nm_model.proofs.replica.equal_knowledge_gives_equal_states.Goals as goal

pub returns : goal.returns
returns g c = λ net ok p K J e. record {
  states = λ k w. same_state net p ok K J e k w;
  within = λ k w. same_within net p ok K J e k w;
  promises = λ kind k d w. same_promise net p ok K J e kind k d w;
}
