use Rattle.std.proofs.Common.{◌≡◌, map, None}
use Rattle.nm_model.specs.Certificate.{first_below}
use Rattle.nm_rounds.specs.Certify.{missing}
use Rattle.nm_rounds.proofs.certify.check_partitions.Given as goal

abbrev pub invariant-loop-number : goal.invariant-loop-number
invariant-loop-number l = first_below (missing (map (λ b. b.now) l.books)) l.number ≡ None
