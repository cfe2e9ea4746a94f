use Rattle.std.proofs.Common.{inr, ◌∷◌, ◌∙◌, ap}
use Rattle.std.specs.Vec.Iter.{into_iter_items}
use Rattle.std.proofs.lemmas.Result.{err_from_is_err_and}
use Rattle.nm_certify.proofs.Pieces.{first_fault}
use Rattle.nm_certify.proofs.parts.all_ends.Goals as goal

pub returns-in_err-result-clause-first : goal.returns-in_err-result-clause-first
returns-in_err-result-clause-first c =
    let p = err_from_is_err_and c.from_residual.result c.from_residual.ensures.1 in
    let rest = into_iter_items c.next.new.self in
    let is = c.in-Some.ensures.steps.0 ∙ ap (λ r. r ∷ rest) c.in_err-result.was in
    rw (p.1, p.2) (inr (first_fault c.loop-result.ends.items c.in_err-result.field-0.0 (into_iter_items c.loop-result.result-iterator) rest c.args.results.items c.loop-result.invariant is))
