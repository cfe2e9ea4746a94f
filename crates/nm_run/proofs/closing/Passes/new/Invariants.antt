use Rattle.std.proofs.Common.{◌≡◌, ◌≤◌, length, vec_len}
use Rattle.std.specs.List.{sum_by}
use Rattle.nm_run.proofs.closing.Passes.new.Given as goal

abbrev pub invariant-loop-number : goal.invariant-loop-number
invariant-loop-number l = record {
  within : l.number ≤ l.books;
  none : sum_by (λ list. length list.items) l.lists.items ≡ 0;
  many : vec_len l.lists ≡ l.number;
}
