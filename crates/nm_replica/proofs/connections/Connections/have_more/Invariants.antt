use Rattle.std.proofs.Common.{◌≡◌, ◌<◌, ℕ, false}
use Rattle.slab.specs.Slab.{get}
use Rattle.nm_replica.specs.Connections.{is_ready}
use Rattle.nm_replica.proofs.connections.Connections.have_more.Given as goal

abbrev pub invariant-loop-key : goal.invariant-loop-key
invariant-loop-key g l = (k : ℕ) → k < l.key → is_ready (get l.self.open k) ≡ false
