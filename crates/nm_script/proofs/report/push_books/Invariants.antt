use Rattle.std.proofs.Common.{◌≡◌, ◌++◌, take}
use Rattle.std.specs.List.{flat_map}
use Rattle.std.specs.String.{string_bytes}
use Rattle.nm_script.specs.Printed.{book_line}
use Rattle.nm_script.proofs.report.push_books.Given as goal

abbrev pub invariant-loop-book : goal.invariant-loop-book
invariant-loop-book l = string_bytes l.text ≡ string_bytes l.fn.text ++ flat_map book_line (take l.book-index l.books)
