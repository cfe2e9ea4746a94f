use Rattle.nm_model.proofs.Begin.{no_messages}
use Rattle.nm_model.proofs.replica.nothing_known_puts_nothing.Goals as goal

pub returns : goal.returns
returns g c = λ net p. no_messages net p net.ifaces
