use Rattle.std.proofs.Common.{◌∙◌, rules}
use Rattle.nm_replica.proofs.Readiness.{all_looked, one_more_looked, rest_kept}
use Rattle.nm_replica.proofs.connections.Connections.note_all.Goals as goal

pub loop-key-preserved : goal.loop-key-preserved
loop-key-preserved g c =
    let i = c.loop-key.invariant in
    let before = c.loop-key.self.open in
    record {
      contacts = c.note.ensures.contacts ∙ i.contacts;
      ready = one_more_looked before c.note.new.self.open c.loop-key.key c.note.ensures.open i.ready;
      rest = rest_kept c.args.self.now.open before c.note.new.self.open c.loop-key.key _ c.note.ensures.open i.rest;
    }

pub returns-clause-ready : goal.returns-clause-ready
returns-clause-ready g c = all_looked c.args.self.now.open c.loop-key.self.open c.loop-key.key (search rules) c.loop-key.invariant.ready c.loop-key.invariant.rest
