use Rattle.std.proofs.Common.{◌≡◌, ◌+◌, length, vec_len}
use Rattle.std.specs.List.{range_with_len}
use Rattle.nm_run.specs.Passes.{pass_counts, more_of, pass_count}
use Rattle.nm_run.proofs.closing.Passes.add_each.Given as goal

abbrev pub invariant-loop-book : goal.invariant-loop-book
invariant-loop-book l = record {
  all : pass_count l.self ≡ pass_count l.fn.self + length l.yielded;
  count : l.book-iterator.count ≡ length l.yielded;
  each : pass_counts l.self ≡ more_of (pass_counts l.fn.self) (range_with_len 0 (length l.yielded));
  books : vec_len l.self.lists ≡ vec_len l.fn.self.lists;
}
