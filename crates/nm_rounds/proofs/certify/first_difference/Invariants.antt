use Rattle.std.proofs.Common.{◌≡◌, ℕ, drop}
use Rattle.nm_model.specs.Certificate.{prefix_fault}
use Rattle.nm_knowledge.specs.Octets.{same_octets}
use Rattle.nm_rounds.proofs.certify.first_difference.Given as goal

abbrev pub invariant-loop-number : goal.invariant-loop-number
invariant-loop-number l = (c : ℕ) → prefix_fault same_octets c l.number (drop l.number l.know.list) (drop l.number l.sent) ≡ prefix_fault same_octets c 0 l.know.list l.sent
