use Rattle.nm_shared.specs.Board.{IsSeatOf}
use Rattle.nm_run.proofs.jobs.has_news.Given as goal

abbrev pub invariant-loop-word : goal.invariant-loop-word
invariant-loop-word l = IsSeatOf l.board l.seat
