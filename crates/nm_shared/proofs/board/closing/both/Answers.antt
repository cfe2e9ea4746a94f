use Rattle.nm_shared.proofs.Closings.{both_fit}
use Rattle.nm_shared.proofs.board.closing.both.Goals as goal

pub returns-in-Some-clause-fits : goal.returns-in-Some-clause-fits
returns-in-Some-clause-fits c n fits = both_fit n c.in-Some.closer c.join.new.place c.args.place c.args.closer c.in-Some.is c.join.ensures.view fits
