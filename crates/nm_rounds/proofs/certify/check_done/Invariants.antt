use Rattle.std.proofs.Common.{◌≡◌, All, drop, map, take}
use Rattle.nm_model.specs.Certificate.{first_of}
use Rattle.nm_rounds.specs.Certify.{IsWithinSafe, books_of, unfinished}
use Rattle.nm_rounds.proofs.certify.check_done.Given as goal

abbrev pub invariant-loop-book : goal.invariant-loop-book
invariant-loop-book l = record {
  rest : first_of (unfinished l.topology) (books_of (map (λ b. b.now) (drop l.book-index l.books))) ≡ first_of (unfinished l.topology) (books_of (map (λ b. b.now) l.books));
  within : All (λ b. IsWithinSafe l.topology b.now) (take l.book-index l.books);
}
