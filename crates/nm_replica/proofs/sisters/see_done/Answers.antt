use Rattle.std.proofs.Common.{◌∙◌, sym}
use Rattle.std.proofs.lemmas.Bool.{not-false, not-true}
use Rattle.nm_replica.proofs.Finishing.{looked_at}
use Rattle.nm_replica.proofs.sisters.see_done.Goals as goal

pub returns-then-not-standing-clause-left : goal.returns-then-not-standing-clause-left
returns-then-not-standing-clause-left g c = λ _.
    let did = c.act-standing.ensures in
    (did.0, sym did.2.5 ∙ not-true c.act-standing.result.is_done c.if-not-standing.true)

pub returns-clause-done : goal.returns-clause-done
returns-clause-done g c =
    let did = c.act-standing.ensures in
    (did.0, looked_at g.C.Counts.exact g.C.Counts.home did.0 did.1 did.2.0 did.3, sym did.2.5 ∙ not-false c.act-standing.result.is_done c.if-not-standing.false)
