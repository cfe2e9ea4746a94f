use Rattle.std.proofs.Common.{◌≤◌, length, take}
use Rattle.nm_certify.specs.Checking.{IsLeastOf}
use Rattle.nm_certify.proofs.books.least_difference.Given as goal

abbrev pub invariant-loop-number : goal.invariant-loop-number
invariant-loop-number l = record {
  within : l.number ≤ length l.ends;
  least : IsLeastOf (take l.number l.ends) l.least;
}
