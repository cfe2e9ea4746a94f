use Rattle.std.proofs.Common.{refl}
use Rattle.std.proofs.lemmas.Result.{err_from_is_err_and}
use Rattle.nm_engine.specs.declared.parts.Parts.{Parts}
use Rattle.nm_engine.specs.Passes.{by_pass}
use Rattle.nm_engine.proofs.Turns.{breaks_take, took_in}
use Rattle.nm_engine.proofs.turning.take_in.Goals as goal

pub returns-in_err-take_all-clause-takes : goal.returns-in_err-take_all-clause-takes
returns-in_err-take_all-clause-takes g c =
    let new : Parts g.row.W.Denot = record { wire = c.read_in-read.new.wire; party = c.take_all.new.party; reader = c.read_in-read.new.reader; out = c.args.parts.now.out } in
    let p = err_from_is_err_and c.from_residual.result c.from_residual.ensures.1 in
    rw (p.1, p.2) (breaks_take g.W.Wire.seen (by_pass g.C.Counts.exact g.C.Counts.home g.C.Counts.messages_of g.C.Counts.events_of c.args.pass.now.share c.take_all.new.pass.share) c.args.parts.now new c.read_in-read.new.frames.items c.bye_taken-may_end.result c.bye_taken-may_end.ensures
    c.take_all.ensures.keeps c.read_in-read.ensures.keeps refl c.read_in-read.result c.in_err-take_all.field-0.0 c.read_in-read.ensures.reads c.in_err-take_all.ensures.takes)

pub returns-clause-takes : goal.returns-clause-takes
returns-clause-takes g c =
    let new : Parts g.row.W.Denot = record { wire = c.read_in-read.new.wire; party = c.take_all.new.party; reader = c.read_in-read.new.reader; out = c.args.parts.now.out } in
    took_in g.W.Wire.seen (by_pass g.C.Counts.exact g.C.Counts.home g.C.Counts.messages_of g.C.Counts.events_of c.args.pass.now.share c.take_all.new.pass.share) c.args.parts.now new c.read_in-read.new.frames.items c.bye_taken-may_end.result c.bye_taken-may_end.ensures
    c.take_all.ensures.keeps c.read_in-read.ensures.keeps refl c.read_in-read.result c.read_in-read.ensures.reads c.in_ok-take_all.ensures.takes c.read_in-read.ensures.part
