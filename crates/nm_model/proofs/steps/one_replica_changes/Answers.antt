use Rattle.std.proofs.Common.{refl}
use Rattle.nm_model.proofs.StepLaws.{here, others}
use Rattle.nm_model.proofs.steps.one_replica_changes.Goals as goal

pub returns : goal.returns
returns g c = λ w p r x. record { here = here w p r x; others = others w p r x; bag = refl }
