use Rattle.std.proofs.Common.{◌≡◌, map, sym, ◌∙◌, subst}
use Rattle.nm_book.specs.Book.{state_of}
use Rattle.nm_files.specs.Outputs.{AreWhole, HasMade}
use Rattle.nm_files.proofs.Made.{made_more}
use Rattle.nm_program.specs.Node.{asked_known, own_files}
use Rattle.nm_program.proofs.own_files.make_files.Goals as goal

pub returns-clause-made : goal.returns-clause-made
returns-clause-made g c =
    let folder = c.args.folder.now in
    let book = c.args.book.now in
    let before = g.F.Outputs.made c.args.outputs.now in
    let mid = g.F.Outputs.made c.place_all.new.outputs in
    let after = g.F.Outputs.made c.place_each.new.outputs in
    let own = own_files folder.topology.now folder.choice.partition folder.name.now (state_of book).records in
    let kept = asked_known c.args.keeps folder.name.now book in
    let same = c.in_ok-traces.ensures.same in
    let both = c.in_ok-known.ensures.same ∙ same in
    let traces = subst (λ l. AreWhole before (map (λ c. g.F.Outputs.closed c.file) c.in_ok-traces.traces.files.items) (own_files folder.topology.now folder.choice.partition folder.name.now l)) c.trace_of.ensures.value c.in_ok-traces.ensures.closed in
    let known = subst (λ m. AreWhole m (map g.F.Outputs.closed c.in_ok-known.known.items) kept) same c.in_ok-known.ensures.closed in
    λ first told.
    let placed : HasMade before mid own =
    subst (λ m. HasMade m mid own) both (c.in_ok-place_all.ensures.placed own (subst (λ m. AreWhole m (map (λ c. g.F.Outputs.closed c.file) c.in_ok-traces.traces.files.items) own) (sym both) traces)) in
    made_more before mid after own kept placed (c.in_ok-place_each.ensures.placed kept (λ now is. known first told)) first told
