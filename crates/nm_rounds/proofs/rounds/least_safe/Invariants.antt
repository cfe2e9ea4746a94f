use Rattle.std.proofs.Common.{◌≡◌, ◌-◌, ◌^◌, drop, map, min}
use Rattle.std.specs.List.{fold}
use Rattle.nm_book.specs.Book.{safe_of}
use Rattle.nm_rounds.specs.Rounds.{least_safe}
use Rattle.nm_rounds.proofs.rounds.least_safe.Given as goal

abbrev pub invariant-loop-book : goal.invariant-loop-book
invariant-loop-book l =
    fold min l.time (map safe_of (drop l.book-index l.books)) ≡ least_safe l.books
