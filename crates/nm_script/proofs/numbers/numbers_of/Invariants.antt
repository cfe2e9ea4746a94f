use Rattle.std.proofs.Common.{◌≡◌, length, map, decimal, ◌++◌}
use Rattle.nm_base.specs.Text.{parts_at}
use Rattle.nm_script.proofs.Parts.{AreSmall}
use Rattle.nm_script.proofs.numbers.numbers_of.Given as goal

abbrev pub invariant-loop-word : goal.invariant-loop-word
invariant-loop-word l = (parts_at 32 l.text ≡ map decimal l.numbers.items ++ parts_at 32 l.rest) × AreSmall l.numbers.items

abbrev pub decreases-loop-word : goal.decreases-loop-word
decreases-loop-word l = length l.rest
