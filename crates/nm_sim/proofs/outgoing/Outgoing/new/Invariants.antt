use Rattle.std.proofs.Common.{◌≡◌, ◌≤◌, [], length}
use Rattle.nm_sim.specs.Tables.{AllAt}
use Rattle.nm_sim.proofs.outgoing.Outgoing.new.Given as goal

abbrev pub invariant-loop-number : goal.invariant-loop-number
invariant-loop-number l = (length l.channels.items ≡ l._number) × AllAt (λ c v. v.messages ≡ []) l.channels.items × AllAt (λ c v. 1 ≤ v.spare) l.channels.items
