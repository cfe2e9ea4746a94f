use Rattle.nm_laws.proofs.Promising.{stop_is_promised}
use Rattle.nm_laws.proofs.sessions.a_done_replica_promises_stop.Goals as goal

pub returns : goal.returns
returns c = λ b channel done. stop_is_promised b channel done
