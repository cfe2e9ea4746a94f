use Rattle.std.proofs.Common.{◌≡◌, ◌+◌, length, map, vec_len}
use Rattle.nm_run.specs.Passes.{pass_counts, more_of, pass_count}
use Rattle.nm_run.proofs.closing.gather_others.Given as goal

abbrev pub invariant-loop-other : goal.invariant-loop-other
invariant-loop-other l = record {
  all : pass_count l.passes ≡ pass_count l.fn.passes + length l.yielded;
  each : pass_counts l.passes ≡ more_of (pass_counts l.fn.passes) (map (λ p. p.book) l.yielded);
  books : vec_len l.passes.lists ≡ vec_len l.fn.passes.lists;
}
