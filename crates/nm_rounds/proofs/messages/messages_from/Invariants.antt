use Rattle.nm_rounds.proofs.Sends.{AreGathered}
use Rattle.nm_rounds.proofs.messages.messages_from.Given as goal

abbrev pub invariant-loop-number : goal.invariant-loop-number
invariant-loop-number l = AreGathered l.book l.channel l.first l.number l.messages.items
