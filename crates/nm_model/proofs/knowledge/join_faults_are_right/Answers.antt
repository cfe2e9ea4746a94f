use Rattle.nm_model.proofs.Joins as joins
use Rattle.nm_model.proofs.Faults as faults
use Rattle.nm_model.proofs.knowledge.join_faults_are_right.Goals as goal

pub returns : goal.returns
returns g c = record {
  none = λ same eq a b h. joins.join_faultless h.history same eq a b h.left h.right;
  only = λ same eq tells a b ka kb e. faults.faultless_compatible same eq tells a b ka kb e;
  shown = λ same eq tells a b f e. faults.fault_shows same eq tells a b f e;
  above = λ a b d u v r. faults.under_compatible a b d u v r;
  joined = λ a b h. (joins.left_under h.history a b h.left h.right, joins.right_under h.history a b h.left h.right, joins.join_comm h.history a b h.left h.right);
  first = λ same K J n d f e. faults.first_fault same K J n d f e;
  faultless = λ same K J n h d lt. faults.no_fault_below same K J n h d lt;
}
