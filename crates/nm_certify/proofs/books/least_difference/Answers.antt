use Rattle.std.proofs.Common.{◌≡◌, ◌<◌, ◌≤◌, ◌+◌, ◌∷◌, ◌++◌, ◌∙◌, [], None, Ok, Some, length, take, sym, ap, subst, arith, rules}
use Rattle.std.proofs.lemmas.List.{take_all, take_more}
use Rattle.nm_certify.specs.Checking.{IsLeastOf}
use Rattle.nm_certify.specs.declared.part.PartEnd.{PartEnd}
use Rattle.nm_certify.proofs.Certified.{none_more, one_more_least}
use Rattle.nm_certify.proofs.books.least_difference.Goals as goal
use Rattle.nm_certify.proofs.books.least_difference.Goals.{in-Some, in_default}

pub loop-number-preserved : goal.loop-number-preserved
loop-number-preserved c =
    let ends = c.args.ends.now in
    let n = c.loop-number.number in
    let end = c.index-ends-number.result in
    let old = c.loop-number.least in
    let low : n < length ends = search rules in
    let next = take_more ends n end low ∙ ap (λ e. take n ends ++ e ∷ []) (sym c.index-ends-number.is) in
    let was = c.loop-number.invariant.least in
    elim c.match-branch-2.branch [
      | in-Some w ↦
          let found : end.traces ≡ Ok (Some w.in-Some.found) = ap {A = PartEnd} (λ e. e.traces) c.index-ends-number.is ∙ c.in_ok-found.was ∙ ap (λ o. Ok o) w.in-Some.is in
          record {
            within = omega (arith, low);
            least = subst (IsLeastOf (take (n + 1) ends)) (sym w.least-is) (subst (λ l. IsLeastOf l (Some w.lesser.result)) (sym next)
                (one_more_least (take n ends) end old w.in-Some.found w.lesser.result was found w.lesser.ensures.one w.lesser.ensures.least));
          }
      | in_default w ↦
          let none : c.in_ok-found.field-0 ≡ None = search rules in
          let found : end.traces ≡ Ok None = ap {A = PartEnd} (λ e. e.traces) c.index-ends-number.is ∙ c.in_ok-found.was ∙ ap (λ o. Ok o) none in
          record {
            within = omega (arith, low);
            least = subst (IsLeastOf (take (n + 1) ends)) (sym w.least-is) (subst (λ l. IsLeastOf l old) (sym next) (none_more (take n ends) end old was found));
          }
    ]

pub returns : goal.returns
returns c =
    let ends = c.args.ends.now in
    let over : length ends ≤ c.loop-number.number = search rules in
    record { least = subst (λ l. IsLeastOf l c.loop-number.least) (take_all c.loop-number.number ends over) c.loop-number.invariant.least }
