use Rattle.std.proofs.Common.{true, []}
use Rattle.nm_model.specs.Partition.{in_part}
use Rattle.nm_model.specs.Replica.{inbox_events}
use Rattle.nm_model.proofs.Traces.{arrived_counts}
use Rattle.nm_model.proofs.trace.arrivals_are_recorded.Goals as goal

pub returns-clause-whole : goal.returns-clause-whole
returns-clause-whole g c = λ net n d. arrived_counts net (λ q. true) d [] n

pub returns-clause-part : goal.returns-clause-part
returns-clause-part g c = λ net p K k d. arrived_counts net (in_part net p) d (inbox_events net p K) k
