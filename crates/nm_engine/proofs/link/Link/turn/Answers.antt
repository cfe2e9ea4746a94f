use Rattle.std.proofs.Common.{Bool, subst, sym}
use Rattle.nm_engine.specs.Link.{LinkValue}
use Rattle.nm_engine.specs.Passes.{by_pass}
use Rattle.nm_engine.specs.Turn.{Turns, link_of}
use Rattle.nm_engine.proofs.link.Link.turn.Goals as goal

pub returns-in-Ok-clause-turns : goal.returns-in-Ok-clause-turns
returns-in-Ok-clause-turns g c =
    let i = c.self.inside in
    let n = c.work.new.parts in
    let by = by_pass g.C.Counts.exact g.C.Counts.home g.C.Counts.messages_of g.C.Counts.events_of c.args.pass.now.share c.work.new.pass.share in
    subst (λ (x : LinkValue g.row.W.Denot). Turns g.W.Wire.seen by x (link_of n i.failed) c.in-Ok.turn) c.self.view_is
    (subst (λ (b : Bool). Turns g.W.Wire.seen by (link_of i.parts b) (link_of n b) c.in-Ok.turn) (sym c.if-self.false) c.in-Ok.ensures.works)
