use Rattle.std.proofs.Common.{map}
use Rattle.nm_shared.proofs.workers.pool.Given as goal

abbrev pub ghosts-pool_of : goal.ghosts-pool_of
ghosts-pool_of g a = record { books = map (λ j. j.book) a.jobs.now; limits = map (λ j. j.limit) a.jobs.now }
