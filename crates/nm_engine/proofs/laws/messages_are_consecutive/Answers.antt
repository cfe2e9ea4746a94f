use Rattle.nm_engine.proofs.Many.{numbers}
use Rattle.nm_engine.proofs.laws.messages_are_consecutive.Goals as goal

pub returns : goal.returns
returns c = numbers
