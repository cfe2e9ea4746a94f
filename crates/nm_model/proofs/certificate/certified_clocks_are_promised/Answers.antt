use Rattle.nm_model.proofs.Certifying.{certify_none}
use Rattle.nm_model.proofs.certificate.certified_clocks_are_promised.Goals as goal

pub returns : goal.returns
returns g c = λ net ok same eq tells kind books e i j k r s at to comes from.
    ((certify_none net same eq tells kind ok books e).matches i j k r s at to comes from).promised
