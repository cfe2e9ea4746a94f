use Rattle.nm_model.proofs.Stated as laws
use Rattle.nm_model.proofs.trace.records_in_order.Goals as goal

pub returns : goal.returns
returns g c = λ net ok. record {
  whole = λ n j k a b le e f. laws.in_order net ok n j k a b le e f;
  part = λ p K n j k a b le e f. laws.in_order_there net ok p K n j k a b le e f;
}
