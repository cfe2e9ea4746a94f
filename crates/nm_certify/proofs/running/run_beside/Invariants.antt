use Rattle.std.proofs.Common.{◌≡◌, ℕ, List, OnOk, Option, length}
use Rattle.nm_files.specs.Least.{AreBegun, AreReadBelow}
use Rattle.nm_book.specs.Book.{state_of}
use Rattle.nm_certify.proofs.running.run_beside.Given as goal

abbrev pub invariant-loop : goal.invariant-loop
invariant-loop g l = record {
  handed : l.book.handed ≡ length (state_of l.book).records;
  same : l.book ≡ record l.fn.book { events = l.book.events; handed = l.book.handed };
  read : (texts : ℕ → Option (List ℕ)) → AreBegun texts g.B.Read.remaining l.fn.files
      → OnOk l.checked (AreReadBelow texts g.B.Read.remaining l.fn.files (state_of l.book).records l.files);
}
