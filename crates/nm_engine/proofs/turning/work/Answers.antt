use Rattle.std.proofs.Common.{false, refl, subst, sym}
use Rattle.std.proofs.lemmas.Result.{err_from_is_err_and}
use Rattle.nm_engine.specs.declared.answer.Turn.{Turn}
use Rattle.nm_engine.specs.Passes.{counted_by, owner_if}
use Rattle.nm_engine.specs.Turn.{Turns, link_of}
use Rattle.nm_engine.proofs.Turns.{breaks_give, breaks_write, turned_well}
use Rattle.nm_engine.proofs.turning.work.Goals as goal

pub returns-in_err-came-clause-works : goal.returns-in_err-came-clause-works
returns-in_err-came-clause-works g c =
    let p = err_from_is_err_and c.from_residual.result c.from_residual.ensures.1 in
    rw (p.1, p.2) c.in_err-came.ensures.takes

pub returns-in_err-give_all-clause-works : goal.returns-in_err-give_all-clause-works
returns-in_err-give_all-clause-works g c =
    let C = g.C.Counts in
    let o = owner_if C.exact C.home in
    let k = counted_by C.exact C.messages_of C.events_of c.args.pass.now.share in
    let l = counted_by C.exact C.messages_of C.events_of c.take_in.new.pass.share in
    let n = counted_by C.exact C.messages_of C.events_of c.give_all.new.pass.share in
    let p = err_from_is_err_and c.from_residual-in_err-give_all.result c.from_residual-in_err-give_all.ensures.1 in
    rw (p.1, p.2) (breaks_give g.W.Wire.seen o k l n (link_of c.args.parts.now false) (link_of c.take_in.new.parts false) c.in_ok-came.ensures.takes.0
    c.give_all.new.session c.take_in.new.parts.wire c.give_all.new.out.items (c.in_err-give_all.ensures.gives c.args.parts.now.party.acceptor) refl)

pub returns-in_err-went-clause-works : goal.returns-in_err-went-clause-works
returns-in_err-went-clause-works g c =
    let C = g.C.Counts in
    let o = owner_if C.exact C.home in
    let k = counted_by C.exact C.messages_of C.events_of c.args.pass.now.share in
    let l = counted_by C.exact C.messages_of C.events_of c.take_in.new.pass.share in
    let n = counted_by C.exact C.messages_of C.events_of c.give_all.new.pass.share in
    let p = err_from_is_err_and c.from_residual-in_err-went.result c.from_residual-in_err-went.ensures.1 in
    rw (p.1, p.2) (breaks_write g.W.Wire.seen o k l n (link_of c.args.parts.now false) (link_of c.take_in.new.parts false) c.in_ok-came.ensures.takes.0
    c.give_all.new.session c.write_out.new.wire c.give_all.new.out.items c.write_out.new.out.items (c.in_ok-give_all.ensures.gives c.args.parts.now.party.acceptor) c.write_out.ensures.keeps.0
    c.in_err-went.field-0.0 c.in_err-went.ensures.writes)

pub returns-clause-works : goal.returns-clause-works
returns-clause-works g c =
    let C = g.C.Counts in
    let o = owner_if C.exact C.home in
    let k = counted_by C.exact C.messages_of C.events_of c.args.pass.now.share in
    let l = counted_by C.exact C.messages_of C.events_of c.take_in.new.pass.share in
    let n = counted_by C.exact C.messages_of C.events_of c.give_all.new.pass.share in
    let old = link_of c.args.parts.now false in
    let mid = link_of c.take_in.new.parts false in
    let takes = c.in_ok-came.ensures.takes in
    let new = record mid { wire = c.write_out.new.wire; session = c.give_all.new.session; out = c.write_out.new.out.items } in
    subst (λ (x : Turn). Turns g.W.Wire.seen (record { owner = o; before = k; after = n }) old new x) (sym c.answer.ensures)
    (turned_well g.W.Wire.seen o k l n old mid takes.0 c.give_all.new.session c.write_out.new.wire c.give_all.new.out.items c.write_out.new.out.items
    (c.in_ok-give_all.ensures.gives c.args.parts.now.party.acceptor) c.write_out.ensures.keeps.0 c.in_ok-came.came c.in_ok-went.went takes.1 c.in_ok-went.ensures.writes c.write_out.ensures.keeps.1
    c.in_ok-give_all.ensures.all c.has_ended.result
    c.has_ended.ensures.ended c.has_ended.ensures.only)
