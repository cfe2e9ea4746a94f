use Rattle.std.proofs.Common.{Bool, subst, sym}
use Rattle.nm_engine.specs.Link.{LinkValue}
use Rattle.nm_engine.specs.Passes.{by_pass}
use Rattle.nm_engine.specs.Turn.{Hears, link_of}
use Rattle.nm_engine.proofs.link.Link.hear.Goals as goal

pub returns-in-Ok-clause-hears : goal.returns-in-Ok-clause-hears
returns-in-Ok-clause-hears g c =
    let i = c.self.inside in
    let n = c.listen.new.parts in
    let by = by_pass g.C.Counts.exact g.C.Counts.home g.C.Counts.messages_of g.C.Counts.events_of c.args.pass.now.share c.listen.new.pass.share in
    subst (λ (x : LinkValue g.row.W.Denot). Hears g.W.Wire.seen by x (link_of n i.failed) c.in-Ok.turn) c.self.view_is
    (subst (λ (b : Bool). Hears g.W.Wire.seen by (link_of i.parts b) (link_of n b) c.in-Ok.turn) (sym c.if-self.false) c.in-Ok.ensures.hears)
