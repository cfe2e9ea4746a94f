use Rattle.nm_model.proofs.Certifying.{empty_done, empty_trace}
use Rattle.nm_model.proofs.certificate.no_partition_no_events.Goals as goal

pub returns-clause-done : goal.returns-clause-done
returns-clause-done g c = λ net ok parted p none. empty_done net ok parted p none

pub returns-clause-empty : goal.returns-clause-empty
returns-clause-empty g c = λ net ok parted p last none b. empty_trace net ok parted p none last b
