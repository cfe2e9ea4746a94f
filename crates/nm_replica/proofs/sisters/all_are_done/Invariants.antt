use Rattle.std.proofs.Common.{◌≡◌, length, map}
use Rattle.nm_replica.specs.Served.{WereFinished}
use Rattle.nm_replica.proofs.sisters.all_are_done.Given as goal

abbrev pub invariant-loop-number : goal.invariant-loop-number
invariant-loop-number g l = record {
  count : length l.passes.items ≡ length l.fn.passes.items;
  first : l.first.count ≡ l.number;
  all : WereFinished g.C.Counts.exact l.number (map (λ p. g.C.Counts.events_of p.share) l.passes.items);
}
