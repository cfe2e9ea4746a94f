use Rattle.std.proofs.Common.{◌≡◌, drop}
use Rattle.nm_model.specs.Join.{first_differs}
use Rattle.nm_knowledge.specs.Octets.{same_octets}
use Rattle.nm_knowledge.proofs.messages.Messages.first_difference.Given as goal

abbrev pub invariant-loop-number : goal.invariant-loop-number
invariant-loop-number l = first_differs same_octets 0 l.self l.other ≡ first_differs same_octets l.number (drop l.number l.self) (drop l.number l.other)
