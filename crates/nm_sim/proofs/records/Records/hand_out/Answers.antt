use Rattle.std.proofs.Common.{arith}
use Rattle.std.proofs.lemmas.Option.{slice_get_within}
use Rattle.nm_sim.proofs.Recordings.{records_handed, records_same}
use Rattle.nm_sim.proofs.records.Records.hand_out.Goals as goal

pub returns-clause-represents : goal.returns-clause-represents
returns-clause-represents c = λ t trace h.
    let took = c.take_first-first.ensures in
    let there = slice_get_within c.args.self.now.kept 0 c.take_first-first.result took.first in
    records_same t c.take_first-first.new.self c.give_back.new.self trace c.give_back.ensures.same
    (records_handed t c.args.self.now c.take_first-first.new.self trace (omega (arith, there)) took.kept took.keeping took.traffic h)
