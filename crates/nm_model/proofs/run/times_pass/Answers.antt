use Rattle.nm_model.proofs.Stated as laws
use Rattle.nm_model.proofs.Ends.{drains_once}
use Rattle.nm_model.proofs.run.times_pass.Goals as goal

pub returns : goal.returns
returns g c = λ net ok. record {
  before = λ t. laws.before net ok t;
  before_once = λ t m n a b. drains_once net _ _ t m n a b;
  count = λ p K. laws.count net ok p K;
  count_once = λ p K j k a b. drains_once net _ _ _ j k a b;
  within = λ p K j k a b. laws.within net ok p K j k a b;
  within_only = λ p K j k a b. laws.within_only net ok p K j k a b;
}
