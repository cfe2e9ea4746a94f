use Rattle.std.proofs.Common.{rules, ◌≡◌, ◌∙◌, sym, true}
use Rattle.nm_policy.specs.Decisions.{is_due_at}
use Rattle.nm_replica.proofs.Hands.{one_more_called}
use Rattle.nm_replica.proofs.connections.Connections.dial_all.Goals as goal
use Rattle.nm_replica.proofs.connections.Connections.dial_all.Goals.{then-is_due+in_ok-dial, else-is_due}

pub loop-peer-preserved : goal.loop-peer-preserved
loop-peer-preserved g c =
    elim c.if-is_due.branch [
      | then-is_due+in_ok-dial w ↦
          (let due : is_due_at c.loop-peer.self.contacts.peers c.loop-peer.peer ≡ true = sym c.is_due.ensures ∙ w.if-is_due.true in
          let more =
          one_more_called g.T.Transport.leads_to (c.loop-peer.self.sessions, w.dial.new.self.sessions) c.loop-peer.peer c.loop-peer.self.contacts w.dial.new.self.contacts w.dial.new.self.«open» w.in_ok-dial.ensures.dials
          c.args.self.now.contacts due c.loop-peer.invariant.calls in
          record { idle = search rules; waits = search rules; accepts = search rules; many = search rules; none = search rules; calls = search rules })
      | else-is_due w ↦ record { idle = search rules; waits = search rules; accepts = search rules; many = search rules; none = search rules; calls = search rules }
    ]
