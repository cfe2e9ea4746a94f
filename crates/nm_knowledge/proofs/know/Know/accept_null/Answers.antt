use Rattle.std.proofs.Common.{◌≡◌, ◌<◌, ap, sym, length, arith}
use Rattle.std.proofs.lemmas.Grind.{common_steps}
use Rattle.nm_knowledge.proofs.Nexts.{null_raises}
use Rattle.nm_knowledge.proofs.know.Know.accept_null.Goals as goal

pub returns-clause-after : goal.returns-clause-after
returns-clause-after c =
    let next : c.args.count ≡ length c.self.inside.messages = omega arith in
    let later : c.self.inside.clock < c.args.clock = grind (arith, common_steps, c.if-le.false, c.le.ensures) in
    let raised = null_raises (record { list = c.self.inside.messages; clock = c.self.inside.clock }) c.args.count next c.args.clock later in
    rw (← c.self.view_is) (sym (ap (λ r. r.after) raised))
