use Rattle.nm_model.proofs.Certified.{certified}
use Rattle.nm_model.proofs.Certifying.{whole}
use Rattle.nm_model.proofs.certificate.certificate.Goals as goal

pub returns-clause-whole : goal.returns-clause-whole
returns-clause-whole g c = λ net ok books done p last b. certified net ok books done p last b

pub returns-clause-listed : goal.returns-clause-listed
returns-clause-listed g c = λ net ok parted kind books within cert i r e last b. whole net ok parted kind books within cert i r e last b
