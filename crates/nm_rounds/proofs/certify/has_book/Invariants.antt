use Rattle.std.proofs.Common.{◌≡◌, drop, map}
use Rattle.nm_model.specs.Certificate.{has_part}
use Rattle.nm_rounds.specs.Certify.{books_of}
use Rattle.nm_rounds.proofs.certify.has_book.Given as goal

-- those that are left have one where all have
abbrev pub invariant-loop-book : goal.invariant-loop-book
invariant-loop-book l = has_part l.partition (books_of (map (λ b. b.now) (drop l.book-index l.books))) ≡ has_part l.partition (books_of (map (λ b. b.now) l.books))
