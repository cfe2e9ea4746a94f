use Rattle.std.proofs.Common.{subst}
use Rattle.std.proofs.lemmas.Result.{IfOk-weaker}
use Rattle.nm_files.specs.Outputs.{HasMade}
use Rattle.nm_program.specs.Node.{node_files}
use Rattle.nm_program.proofs.node.write_book.Goals as goal

pub returns-clause-made : goal.returns-clause-made
returns-clause-made g c =
    let folder = c.own_folder-folder.result in
    let same = c.own_folder-folder.ensures in
    let words = c.args.words.now in
    let book = c.args.book.now in
    let before = g.F.Outputs.made c.args.outputs.now in
    let after = g.F.Outputs.made c.make_files.new.outputs in
    IfOk-weaker c.of.result _ _ (λ o had.
    subst (λ t. HasMade before after (node_files t words.partition words.folder.now words.keeps book)) same.0
    (subst (λ n. HasMade before after (node_files folder.topology.now words.partition n words.keeps book)) same.1
    (subst (λ p. HasMade before after (node_files folder.topology.now p folder.name.now words.keeps book)) same.2
    c.in_ok-make_files.ensures.made))) c.of.ensures.made
