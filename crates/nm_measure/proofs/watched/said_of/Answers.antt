use Rattle.nm_measure.proofs.Flowing.{reason_fits}
use Rattle.nm_measure.proofs.watched.said_of.Goals as goal

pub returns-in-Some-clause-fits : goal.returns-in-Some-clause-fits
returns-in-Some-clause-fits c = rw c.fate_of.ensures (reason_fits c.in-Some.counter)
