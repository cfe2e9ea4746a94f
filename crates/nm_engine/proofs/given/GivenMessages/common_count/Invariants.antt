use Rattle.std.proofs.Common.{◌≡◌, sum_by, take}
use Rattle.nm_base.specs.Count.{saturated}
use Rattle.nm_engine.specs.Given.{common_with}
use Rattle.nm_engine.proofs.given.GivenMessages.common_count.Given as goal

abbrev pub invariant-loop-range : goal.invariant-loop-range
invariant-loop-range l = l.count ≡ saturated (sum_by (λ range. common_with range l.fn.other.ranges.items) (take l.range-index l.fn.self.ranges.items))
