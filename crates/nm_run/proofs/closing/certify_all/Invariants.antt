use Rattle.std.proofs.Common.{◌≡◌, ◌≤◌, length, map, take}
use Rattle.nm_run.proofs.closing.certify_all.Given as goal

abbrev pub invariant-loop-number : goal.invariant-loop-number
invariant-loop-number l = record {
  within : l.number ≤ length l.books;
  all : map (λ b. b.now) l.all.items ≡ take l.number l.books;
}
