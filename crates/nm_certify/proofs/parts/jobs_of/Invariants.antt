use Rattle.std.proofs.Common.{◌≡◌, ◌++◌, ◌+◌, length}
use Rattle.std.specs.Vec.Iter.{into_iter_items}
use Rattle.nm_certify.specs.Checking.{jobs_from}
use Rattle.nm_certify.proofs.parts.jobs_of.Given as goal

-- the jobs so far, and those to come
abbrev pub invariant-loop-files : goal.invariant-loop-files
invariant-loop-files g l = record {
  jobs : l.jobs.items ++ jobs_from l.number (into_iter_items l.files-iterator) ≡ jobs_from 0 l.fn.parts.items;
  count : l.number + length (into_iter_items l.files-iterator) ≡ length l.fn.parts.items;
}
