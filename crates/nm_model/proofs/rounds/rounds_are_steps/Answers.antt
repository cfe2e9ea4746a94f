use Rattle.nm_model.proofs.RoundSteps.{steps_of}
use Rattle.nm_model.proofs.rounds.rounds_are_steps.Goals as goal

pub returns : goal.returns
returns g c = λ net ok parted same eq kind b rounds j. steps_of net ok parted same kind eq b rounds j
