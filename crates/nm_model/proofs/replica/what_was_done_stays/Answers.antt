use Rattle.nm_model.proofs.NeverFalling.{sent_grows, records_grow}
use Rattle.nm_model.proofs.replica.what_was_done_stays.Goals as goal

pub returns : goal.returns
returns g c = λ net ok p K J under k m le w. record {
  sent = λ d. sent_grows net ok p K J under k m le w d;
  records = records_grow net ok p K J under k m le w;
}
