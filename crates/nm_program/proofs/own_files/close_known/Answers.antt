use Rattle.std.proofs.Common.{◌≡◌, [], map, true, sym, ap, subst, rules}
use Rattle.nm_files.specs.Outputs.{AreWhole}
use Rattle.nm_program.specs.Node.{asked_known}
use Rattle.nm_program.proofs.own_files.close_known.Goals as goal

pub returns-clause-closed : goal.returns-clause-closed
returns-clause-closed g c =
    let made = g.F.Outputs.made c.args.outputs.now in
    let closed = g.F.Outputs.closed in
    let keeps : c.args.keeps ≡ true = search rules in
    let none : AreWhole made (map closed c.new-known.result.items) [] = λ first told. ap (map closed) c.new-known.ensures.items in
    subst (λ k. AreWhole made (map closed c.keep_known.new.kept.items) (asked_known k c.args.folder.now c.args.book.now)) (sym keeps) (c.in_ok-keep_known.ensures.kept [] none)
