use Rattle.nm_model.proofs.Certifying.{certify_none, none_certify}
use Rattle.nm_model.proofs.certificate.certify_is_exact.Goals as goal

pub returns : goal.returns
returns g c = λ net same eq tells kind books. record {
  sound = λ ok e. certify_none net same eq tells kind ok books e;
  complete = none_certify net same eq tells kind books;
}
