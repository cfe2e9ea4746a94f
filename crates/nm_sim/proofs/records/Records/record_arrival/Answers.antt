use Rattle.nm_sim.proofs.Recordings.{records_more}
use Rattle.nm_sim.proofs.records.Records.record_arrival.Goals as goal

pub returns-clause-represents : goal.returns-clause-represents
returns-clause-represents c = λ t trace h. records_more t c.args.self.now c.add.new.self trace _ c.requires.wanted c.add.ensures.kept c.add.ensures.keeping c.add.ensures.count c.add.ensures.traffic h
