use Rattle.nm_engine.proofs.Many.{accounts}
use Rattle.nm_engine.proofs.laws.nothing_is_lost.Goals as goal

pub returns : goal.returns
returns g c = λ seen first last path goes. accounts seen path first last goes
