use Rattle.std.proofs.Common.{◌≡◌, ◌++◌, [], length, take, drop, append-nil, ◌∙◌, ap, sym, subst, rules}
use Rattle.std.specs.Arc.{arc_value}
use Rattle.std.specs.List.{AllZip}
use Rattle.std.proofs.lemmas.List.{append_assoc, take-append-drop}
use Rattle.std.proofs.lemmas.Result.{err_from_is_err_and}
use Rattle.nm_certify.specs.Checking.{IsEnd, RefusesOne}
use Rattle.nm_certify.proofs.Pieces.{none_of, refused_first, refused_later, zip_append}
use Rattle.nm_certify.proofs.parts.check_all.Goals as goal

pub returns-in_err-more-clause-fault : goal.returns-in_err-more-clause-fault
returns-in_err-more-clause-fault g c =
    let p = err_from_is_err_and c.from_residual-in_err-more.result c.from_residual-in_err-more.ensures.1 in
    let t = arc_value c.args.topology.now in
    let left = g.B.Read.remaining in
    let f = c.in_err-more.field-0.0 in
    let why = subst (λ l. RefusesOne t left l f) c.in_ok-rest.ensures.items c.in_err-more.ensures.fault in
    let piece = c.loop-alloc.piece.items in
    let k = c.min.result in
    rw (p.1, p.2) (c.loop-alloc.invariant.fault f (subst (λ l. RefusesOne t left l f) (take-append-drop k piece) (refused_first t left (take k piece) (drop k piece) f why)))

pub loop-alloc-preserved : goal.loop-alloc-preserved
loop-alloc-preserved g c =
    let t = arc_value c.args.topology.now in
    let left = g.B.Read.remaining in
    let Is = IsEnd t left in
    let piece = c.loop-alloc.piece.items in
    let k = c.min.result in
    let ends = c.loop-alloc.ends.items in
    let these = c.in_ok-more.more.items in
    let here = subst (λ l. AllZip Is l these) c.in_ok-rest.ensures.items c.in_ok-more.ensures.ends in
    let put : c.append.new.self.items ≡ ends ++ these = search rules in
    record {
      ends = λ more rest.
          let later = subst (λ l. AllZip Is l more) c.in_ok-rest.ensures.tail rest in
          let all = subst (λ l. AllZip Is l (these ++ more)) (take-append-drop k piece) (zip_append Is (take k piece) (drop k piece) these more here later) in
          subst (AllZip Is c.args.jobs.items) (sym (ap (λ l. l ++ more) put ∙ append_assoc ends these more)) (c.loop-alloc.invariant.ends (these ++ more) all);
      fault = λ f why. c.loop-alloc.invariant.fault f (subst (λ l. RefusesOne t left l f) (take-append-drop k piece)
          (refused_later t left (take k piece) these here (drop k piece) f (subst (λ l. RefusesOne t left l f) c.in_ok-rest.ensures.tail why)));
    }

pub returns-clause-ends : goal.returns-clause-ends
returns-clause-ends g c =
    let Is = IsEnd (arc_value c.args.topology.now) g.B.Read.remaining in
    let empty : length c.loop-alloc.piece.items ≡ 0 = search rules in
    let none = none_of c.loop-alloc.piece.items empty in
    subst (AllZip Is c.args.jobs.items) (append-nil c.loop-alloc.ends.items) (c.loop-alloc.invariant.ends [] (subst (λ l. AllZip Is l []) (sym none) tt))
