use Rattle.nm_known.specs.Reading.{ComesNone}
use Rattle.nm_known.proofs.taking.next_channel.Given as goal

abbrev pub invariant-loop-number : goal.invariant-loop-number
invariant-loop-number l = record {
  passed : ComesNone l.book l.below l.number;
}
