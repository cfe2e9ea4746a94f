use Rattle.nm_model.proofs.Accepting.{under_self, under_both}
use Rattle.nm_model.proofs.knowledge.under_laws.Goals as goal

pub returns : goal.returns
returns g c = record {
  reflexive = λ a. under_self a;
  transitive = λ a b d h k. under_both a b d h k;
}
