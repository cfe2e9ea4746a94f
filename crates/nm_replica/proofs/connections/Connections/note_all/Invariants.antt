use Rattle.std.proofs.Common.{◌≡◌, ◌<◌, ◌≤◌, ℕ}
use Rattle.slab.specs.Slab.{get}
use Rattle.nm_replica.proofs.Readiness.{IsReadyAt}
use Rattle.nm_replica.proofs.connections.Connections.note_all.Given as goal

abbrev pub invariant-loop-key : goal.invariant-loop-key
invariant-loop-key g l = record {
  contacts : l.self.contacts ≡ l.initial.self.contacts;
  ready : (k : ℕ) → k < l.key → IsReadyAt l.self.open k;
  rest : (k : ℕ) → l.key ≤ k → get l.self.open k ≡ get l.initial.self.open k;
}
