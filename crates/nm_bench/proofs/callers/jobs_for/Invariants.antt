use Rattle.std.proofs.Common.{◌<◌, All}
use Rattle.nm_bench.proofs.callers.jobs_for.Given as goal

abbrev pub invariant-loop-number : goal.invariant-loop-number
invariant-loop-number l = All (λ j. j.book < l.books) l.jobs.items
