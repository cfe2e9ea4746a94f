use Rattle.std.proofs.Common.{sym, subst}
use Rattle.nm_run.specs.Watching.{AreOwns, names_of}
use Rattle.nm_run.proofs.dispatching.give_jobs.Goals as goal

pub do_in_turn-requires-clause-owns : goal.do_in_turn-requires-clause-owns
do_in_turn-requires-clause-owns g c = subst (AreOwns (names_of c.args.threaded.now)) (sym c.in_ok-jobs.ensures.owns) c.requires.owns

pub give_to_pool-requires-clause-owns : goal.give_to_pool-requires-clause-owns
give_to_pool-requires-clause-owns g c = λ κs bounds. subst (AreOwns (names_of c.args.threaded.now)) (sym c.in_ok-jobs.ensures.owns) c.requires.owns
