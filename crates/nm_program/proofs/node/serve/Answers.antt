use Rattle.std.proofs.Common.{refl, sym, ◌∙◌, inl, inr, subst}
use Rattle.std.proofs.lemmas.Result.{err_from_is_err_and}
use Rattle.std.specs.Arc.{arc_value}
use Rattle.nm_files.specs.Outputs.{HasMade}
use Rattle.nm_program.specs.Node.{AreOwnOpened, node_asked, node_files}
use Rattle.nm_program.proofs.NodeEndings.{says_served, stops_serving, stops_writing}
use Rattle.nm_program.proofs.node.serve.Goals as goal

pub write_book-requires-clause-opened : goal.write_book-requires-clause-opened
write_book-requires-clause-opened g c =
    let seen = g.F.File.Sink.seen in
    let words = c.args.words.now in
    let files = c.in_ok-files.files.files.items in
    subst (λ m. AreOwnOpened seen m c.deref-2.result.now words.partition files) (sym c.open_files.ensures.same)
    (subst (λ t. AreOwnOpened seen (g.F.Outputs.made c.args.outputs.now) t words.partition files) (c.deref.ensures ∙ sym c.deref-2.ensures) c.in_ok-files.ensures.opened)

pub returns-in-None-clause-said : goal.returns-in-None-clause-said
returns-in-None-clause-said g c =
    let asked = node_asked c.args.words.now in
    let seen = c.deref-2.result.now in
    let before = g.F.Outputs.made c.args.outputs.now in
    let after = g.F.Outputs.made c.write_book.new.outputs in
    says_served (arc_value c.args.topology.now) asked c.args.listeners.now
    before after seen c.in_ok-end.end.book c.in_ok-output.output.text.items
    c.in_ok-output.output.status c.in_ok-output.output.text.items c.deref-2.ensures c.in_ok-end.ensures.done
    (subst (λ m. HasMade m after (node_files seen asked.partition asked.folder asked.keeps c.in_ok-end.end.book)) c.open_files.ensures.same c.in_ok-output.ensures.made)
    c.in_ok-output.ensures.said.1 (inl (c.in_ok-output.ensures.said.0, refl))

pub returns-clause-said : goal.returns-clause-said
returns-clause-said g c =
    let asked = node_asked c.args.words.now in
    let seen = c.deref-2.result.now in
    let before = g.F.Outputs.made c.args.outputs.now in
    let after = g.F.Outputs.made c.write_book.new.outputs in
    says_served (arc_value c.args.topology.now) asked c.args.listeners.now
    before after seen c.in_ok-end.end.book c.in_ok-output.output.text.items
    c.in-Some.status _ c.deref-2.ensures c.in_ok-end.ensures.done
    (subst (λ m. HasMade m after (node_files seen asked.partition asked.folder asked.keeps c.in_ok-end.end.book)) c.open_files.ensures.same c.in_ok-output.ensures.made)
    c.in_ok-output.ensures.said.1 (inr (c.in_ok-end.end.served, sym c.late_status.ensures ∙ c.in-Some.is, c.new.ensures.items))

pub returns-in_err-files-clause-fault : goal.returns-in_err-files-clause-fault
returns-in_err-files-clause-fault g c =
    let p = err_from_is_err_and c.from_residual.result c.from_residual.ensures.1 in
    rw (p.1, p.2) (stops_writing (g.F.Outputs.made c.args.outputs.now) (g.F.Outputs.made c.open_files.new.outputs) _ c.in_err-files.ensures.fault)

pub returns-in_err-end-clause-fault : goal.returns-in_err-end-clause-fault
returns-in_err-end-clause-fault g c =
    let p = err_from_is_err_and c.from_residual-in_err-end.result c.from_residual-in_err-end.ensures.1 in
    rw (p.1, p.2) (stops_serving (g.F.Outputs.made c.args.outputs.now) (g.F.Outputs.made c.open_files.new.outputs) _ c.open_files.ensures.same c.in_err-end.ensures.fault)

pub returns-in_err-output-clause-fault : goal.returns-in_err-output-clause-fault
returns-in_err-output-clause-fault g c =
    let p = err_from_is_err_and c.from_residual-in_err-output.result c.from_residual-in_err-output.ensures.1 in
    rw (p.1, p.2) (stops_writing (g.F.Outputs.made c.args.outputs.now) (g.F.Outputs.made c.write_book.new.outputs) _ c.in_err-output.ensures.fault)
