use Rattle.std.proofs.Common.{sym, ap, ◌∙◌}
use Rattle.nm_model.specs.Replica.{from_scratch}
use Rattle.nm_model.specs.Promise.{promise}
use Rattle.nm_model.specs.World.{replica_after}
use Rattle.nm_model.proofs.Worlds.{all_within}
use Rattle.nm_model.proofs.SameKnowledge.{same_state, same_promise, same_count}
use Rattle.nm_model.proofs.world.equal_knowledge_gives_equal_replicas.Goals as goal

pub returns : goal.returns
returns g c = λ net ok. record {
  replicas = λ same eq steps others p r s know.
      let x = replica_after net same steps p r in
      let y = replica_after net same others p s in
      let within = all_within net ok same eq steps p r in
      record {
        states = sym (same_state net p ok x.knowledge y.knowledge know.0 x.ran within) ∙ ap (from_scratch net p y.knowledge) know.1;
        promises = λ kind d. sym (same_promise net p ok x.knowledge y.knowledge know.0 kind x.ran d within) ∙ ap (λ k. promise net kind p y.knowledge k d) know.1;
      };
  counts = λ p K J e j k a b. same_count net p ok K J e j k a b;
}
