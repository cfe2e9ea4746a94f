use Rattle.nm_model.proofs.Accepting as accepting
use Rattle.nm_model.proofs.Faults as faults
use Rattle.nm_model.proofs.knowledge.accept_laws.Goals as goal

pub returns : goal.returns
returns g c = record {
  data_adds = λ same a n b. accepting.data_under same a n b;
  null_adds = λ a n t. accepting.null_under a n t;
  opens = faults.nothing_is_know;
  data_keeps = λ same a n b k. faults.data_is_know same a n b k;
  null_keeps = λ a n t k. faults.null_is_know a n t k;
  true_data = λ same eq a H rising v n b e. accepting.data_valid same eq a H rising v n b e;
  true_null = λ a H v n t h. accepting.null_valid a H v n t h;
}
