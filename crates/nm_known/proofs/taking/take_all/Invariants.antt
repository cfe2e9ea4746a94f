use Rattle.std.proofs.Common.{◌≡◌, length, take}
use Rattle.nm_known.proofs.Heard.{HasHeardMore}
use Rattle.nm_known.proofs.taking.take_all.Given as goal

abbrev pub invariant-loop-frame : goal.invariant-loop-frame
invariant-loop-frame l = record {
  heard : HasHeardMore l.fn.book l.fn.expected l.book l.next (take (length l.yielded) l.fn.frames.items);
  same : l.book ≡ record l.fn.book { knows = l.book.knows };
}
