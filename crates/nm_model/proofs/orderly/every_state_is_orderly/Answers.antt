use Rattle.std.proofs.Common.{[]}
use Rattle.nm_model.proofs.Orders.{orderly_start, orderly_whole}
use Rattle.nm_model.proofs.Begin.{orderly_part}
use Rattle.nm_model.proofs.Stated as laws
use Rattle.nm_model.proofs.orderly.every_state_is_orderly.Goals as goal

pub returns : goal.returns
returns g c = λ net ok. record {
  whole = λ n. orderly_whole net ok n;
  part = λ p K k. orderly_part net ok p K k;
  opens = λ here by. orderly_start net ok here by [] (λ q y a. absurd a);
  steps = λ here by s h. laws.orderly_next net ok here by s h;
}
