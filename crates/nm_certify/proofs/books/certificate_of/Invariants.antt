use Rattle.std.proofs.Common.{◌≡◌, ◌≤◌, length, map, take}
use Rattle.nm_certify.proofs.books.certificate_of.Given as goal

abbrev pub invariant-loop-number : goal.invariant-loop-number
invariant-loop-number l = record {
  within : l.number ≤ length l.ends;
  all : map (λ b. b.now) l.books.items ≡ map (λ end. end.book) (take l.number l.ends);
}
