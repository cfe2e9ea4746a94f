use Rattle.std.proofs.Common.{◌≡◌, ◌<◌, ℕ, Some}
use Rattle.nm_replica.specs.Connections.{KeepsUnreported}
use Rattle.nm_replica.proofs.Readiness.{IsReadyAt}
use Rattle.nm_replica.proofs.waiting.note_reports.Given as goal

abbrev pub invariant-loop-number : goal.invariant-loop-number
invariant-loop-number g l = record {
  contacts : l.connections.contacts ≡ l.fn.connections.contacts;
  ready : (k : ℕ) (key : ℕ) → k < l.number → g.T.Transport.reported l.transport k ≡ Some key → IsReadyAt l.connections.«open» key;
  others : KeepsUnreported (g.T.Transport.reported l.transport) l.number l.fn.connections.«open» l.connections.«open»;
}
