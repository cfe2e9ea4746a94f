use Rattle.std.proofs.Common.{sym, subst, Option, Some}
use Rattle.nm_frames.specs.Session.{SessionValue}
use Rattle.nm_engine.specs.Passes.{at, counted_by, owner_if}
use Rattle.nm_engine.specs.Taking.{TakesOne}
use Rattle.nm_engine.proofs.taking.take_one.Goals as goal

pub returns-in-Some-clause-takes : goal.returns-in-Some-clause-takes
returns-in-Some-clause-takes g c =
    let C = g.C.Counts in
    let old = counted_by C.exact C.messages_of C.events_of c.args.pass.now.share in
    let new = counted_by C.exact C.messages_of C.events_of c.take_later.new.pass.share in
    subst (λ (x : Option SessionValue). TakesOne (owner_if C.exact C.home) c.args.party.now.acceptor (at x old) c.args.frame (at (Some c.take_later.new.session) new) c.take_later.result) (sym c.in-Some.is)
    (c.take_later.ensures c.args.party.now.acceptor)
