use Rattle.std.proofs.Common.{rules, ◌≡◌, ◌∙◌, false, sym, true}
use Rattle.nm_policy.specs.Contact.{is_stale}
use Rattle.nm_policy.specs.Contacts.{contact_at, is_slot}
use Rattle.nm_replica.proofs.Hands.{all_taken_out, one_left_in, one_more_gone, one_taken_out}
use Rattle.nm_replica.proofs.connections.Connections.let_stale_go.Goals as goal
use Rattle.nm_replica.proofs.connections.Connections.let_stale_go.Goals.{then-is_stale, else-is_stale}

pub loop-key-preserved : goal.loop-key-preserved
loop-key-preserved g c =
    elim c.if-is_stale.branch [
      | then-is_stale w ↦
          (let stale : is_slot is_stale (contact_at c.loop-key.self.contacts.connections c.loop-key.key) ≡ true = sym c.is_stale.ensures ∙ w.if-is_stale.true in
          let more =
          one_more_gone c.args.self.now.contacts c.loop-key.self.contacts w.break_at.new.self.contacts c.loop-key.key c.loop-key.invariant.went stale w.break_at.ensures.goes
          in
          let taken =
          one_taken_out c.args.self.now.contacts c.args.self.now.«open» c.loop-key.self.contacts w.break_at.new.self.contacts c.loop-key.self.«open» w.break_at.new.self.«open» c.loop-key.key c.loop-key.invariant.out
          stale w.break_at.ensures.goes w.break_at.ensures.«open»
          in
          record {
            idle = search rules;
            waits = search rules;
            accepts = search rules;
            out = search (rules, taken);
            long = search rules;
            gone = search rules;
            went = search rules;
          })
      | else-is_stale w ↦
          (let fresh : is_slot is_stale (contact_at c.loop-key.self.contacts.connections c.loop-key.key) ≡ false = sym c.is_stale.ensures ∙ w.if-is_stale.false in
          let before = one_left_in c.args.self.now.contacts c.args.self.now.«open» c.loop-key.self.contacts c.loop-key.self.«open» c.loop-key.key c.loop-key.invariant.out fresh in
          record { idle = search rules; waits = search rules; accepts = search rules; out = search (rules, before); long = search rules; gone = search rules; went = search rules })
    ]

pub returns-clause-gone : goal.returns-clause-gone
returns-clause-gone g c =
    all_taken_out c.args.self.now.contacts c.args.self.now.«open» c.loop-key.self.contacts c.loop-key.self.«open» c.loop-key.key (search rules) c.loop-key.invariant.out
