use Rattle.nm_model.proofs.TwoHosts.{records_are, all_over}
use Rattle.nm_model.proofs.example.two_hosts_one_packet.Goals as goal

pub returns-clause-records : goal.returns-clause-records
returns-clause-records c = records_are

pub returns-clause-over : goal.returns-clause-over
returns-clause-over c = all_over
