use Rattle.std.proofs.Common.{◌≡◌}
use Rattle.nm_known.specs.Reading.{HoldsPart, IsReadTo}
use Rattle.nm_known.proofs.reading.read_known.Given as goal

abbrev pub invariant-loop : goal.invariant-loop
invariant-loop g l = record {
  read : IsReadTo (g.B.Read.remaining l.fn.reader) l.book l.expected l.pending (g.B.Read.remaining l.file);
  holds : HoldsPart l.pending;
  same : l.book ≡ record l.fn.book { knows = l.book.knows };
}
