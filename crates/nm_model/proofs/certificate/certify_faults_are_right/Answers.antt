use Rattle.nm_model.proofs.CertifyFaults.{fault_shows}
use Rattle.nm_model.proofs.certificate.certify_faults_are_right.Goals as goal

pub returns : goal.returns
returns g c = λ net ok same eq tells kind books f e. fault_shows net ok same eq tells kind books f e
