use Rattle.std.proofs.Common.{◌≡◌, ℕ, Option, Some, length, slice_get}
use Rattle.nm_knowledge.specs.Gain.{Gain}
use Rattle.nm_book.specs.Merging.{IsGainOf, is_incoming, known, other}
use Rattle.nm_book.proofs.merging.gains.Given as goal

abbrev pub invariant-loop-number : goal.invariant-loop-number
invariant-loop-number l = record {
  count : length l.gains.items ≡ l.number;
  each : (c : ℕ) (g : Option Gain) → slice_get l.gains.items c ≡ Some g → IsGainOf (is_incoming l.topology l.partition l.knows l.others.knows c)
      (known l.topology l.partition l.knows l.others.knows c) (other l.topology l.partition l.knows l.others.knows c) g;
}
