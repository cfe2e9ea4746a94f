use Rattle.std.proofs.Common.{sym, ◌∙◌}
use Rattle.nm_replica.proofs.Endings.{is_no_net}
use Rattle.nm_replica.proofs.recording.record.Goals as goal

pub returns-in-Err-clause-net : goal.returns-in-Err-clause-net
returns-in-Err-clause-net g c = λ net. is_no_net c.in-Err.fault (sym c.file_served.ensures.value ∙ net)
