use Rattle.std.proofs.Common.{◌≡◌, ◌++◌, Ok, map}
use Rattle.std.specs.Vec.Iter.{into_iter_items}
use Rattle.nm_certify.proofs.parts.all_ends.Given as goal

-- what came so far, and the results that are left
abbrev pub invariant-loop-result : goal.invariant-loop-result
invariant-loop-result l = map (λ end. Ok end) l.ends.items ++ into_iter_items l.result-iterator ≡ l.fn.results.items
