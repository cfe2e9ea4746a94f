use Rattle.std.proofs.Common.{length, false, subst, sym}
use Rattle.std.proofs.lemmas.Result.{err_from_is_err_and}
use Rattle.nm_engine.specs.declared.answer.Turn.{Turn}
use Rattle.nm_engine.specs.Passes.{by_pass}
use Rattle.nm_engine.specs.Turn.{Heard, Hears, link_of}
use Rattle.nm_engine.proofs.Turns.{says_well}
use Rattle.nm_engine.proofs.turning.listen.Goals as goal

pub returns-in_err-came-clause-hears : goal.returns-in_err-came-clause-hears
returns-in_err-came-clause-hears g c =
    let p = err_from_is_err_and c.from_residual.result c.from_residual.ensures.1 in
    rw (p.1, p.2) c.in_err-came.ensures.takes

pub returns-clause-hears : goal.returns-clause-hears
returns-clause-hears g c =
    let old = link_of c.args.parts.now false in
    let new = link_of c.take_in.new.parts false in
    let takes = c.in_ok-came.ensures.takes in
    let by = by_pass g.C.Counts.exact g.C.Counts.home g.C.Counts.messages_of g.C.Counts.events_of c.args.pass.now.share c.take_in.new.pass.share in
    subst (λ (x : Turn). Hears g.W.Wire.seen by old new x) (sym c.answer.ensures)
    (says_well g.W.Wire.seen by old new (Heard g.W.Wire.seen by old new) (λ h. length h.moves.came) takes.0 c.in_ok-came.came takes.1 c.has_ended.result
    c.has_ended.ensures.ended c.has_ended.ensures.only)
