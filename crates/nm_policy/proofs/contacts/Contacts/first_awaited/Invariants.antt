use Rattle.std.proofs.Common.{◌≡◌, ◌<◌, ℕ, false}
use Rattle.nm_policy.specs.Awaited.{is_awaited_at}
use Rattle.nm_policy.proofs.contacts.Contacts.first_awaited.Given as goal

abbrev pub invariant-loop-peer : goal.invariant-loop-peer
invariant-loop-peer l = (k : ℕ) → k < l.peer → is_awaited_at l.fn.self k ≡ false
