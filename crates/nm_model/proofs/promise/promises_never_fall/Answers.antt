use Rattle.std.proofs.Common.{arith}
use Rattle.nm_model.proofs.Books.{safe_rises}
use Rattle.nm_model.proofs.NeverFalling.{promise_rises}
use Rattle.nm_model.proofs.promise.promises_never_fall.Goals as goal

pub returns : goal.returns
returns g c = λ net ok p K J under. record {
  safe = safe_rises net ok p K J under net.ifaces (omega arith);
  promised = λ k m le w v kind d. promise_rises net ok p kind K J under k m d le w v;
}
