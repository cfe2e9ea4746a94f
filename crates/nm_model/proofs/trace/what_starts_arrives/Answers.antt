use Rattle.nm_model.proofs.Traces.{out_then_in, in_after_out, one_at_a_time}
use Rattle.nm_model.proofs.trace.what_starts_arrives.Goals as goal

pub returns : goal.returns
returns g c = λ net ok. record {
  arrives = λ t n over i m s x e lt. out_then_in net ok n t over i m s x e lt;
  transmitting = λ n i m t x e. in_after_out net ok n i m t x e;
  apart = λ n i m k s t x y lt e f. one_at_a_time net ok n i m k s t x y lt e f;
}
