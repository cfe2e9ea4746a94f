use Rattle.std.proofs.Common.{◌≡◌, ℕ, ◌<◌, true, slice_get, Some}
use Rattle.nm_book.specs.Book.{BookValue}
use Rattle.nm_rounds.specs.Rounds.{IsFinished}
use Rattle.nm_rounds.proofs.round.all_done.Given as goal

abbrev pub invariant-loop-book : goal.invariant-loop-book
invariant-loop-book l = (p : ℕ) (b : BookValue) → p < l.book-index → slice_get l.books p ≡ Some b → IsFinished b true
