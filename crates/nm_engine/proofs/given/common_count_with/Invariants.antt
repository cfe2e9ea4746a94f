use Rattle.std.proofs.Common.{◌≡◌, sum_by, take}
use Rattle.nm_base.specs.Count.{saturated}
use Rattle.nm_engine.specs.Given.{common_of}
use Rattle.nm_engine.proofs.given.common_count_with.Given as goal

abbrev pub invariant-loop-other : goal.invariant-loop-other
invariant-loop-other l = l.count ≡ saturated (sum_by (common_of l.fn.range) (take l.other-index l.others))
