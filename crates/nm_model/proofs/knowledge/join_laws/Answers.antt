use Rattle.nm_model.proofs.Joins as joins
use Rattle.nm_model.proofs.Faults.{join_is_know}
use Rattle.nm_model.proofs.knowledge.join_laws.Goals as goal

pub returns : goal.returns
returns g c = record {
  idempotent = λ a. joins.join_self a;
  commutative = λ H a b u v. joins.join_comm H a b u v;
  associative = λ H a b d u v w. joins.join_assoc H a b d u v w;
  left = λ H a b u v. joins.left_under H a b u v;
  right = λ H a b u v. joins.right_under H a b u v;
  least = λ a b d u v. joins.join_least a b d u v;
  valid = λ H a b u v. joins.join_valid H a b u v;
  no_fault = λ same eq H a b u v. joins.join_faultless H same eq a b u v;
  keeps = λ a b u v. join_is_know a b u v;
}
