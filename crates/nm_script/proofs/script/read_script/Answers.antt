use Rattle.std.proofs.Common.{List, ℕ, length, ap, arith, subst, sym, length-append}
use Rattle.nm_rounds.specs.declared.step.WorldStep.{WorldStep}
use Rattle.nm_script.proofs.Lines.{IsReadTo, begins, goes_on}
use Rattle.nm_script.proofs.script.read_script.Goals as goal

pub loop-rest-init : goal.loop-rest-init
loop-rest-init c =
    (subst (λ (steps : List WorldStep). IsReadTo c.args.text.now c.args.text.now steps 0) (sym c.new-steps.ensures.items) (begins c.args.text.now), omega arith)

pub loop-rest-preserved : goal.loop-rest-preserved
loop-rest-preserved c =
    let took = c.in_ok-take_line.ensures in
    let cut = c.in-Some.ensures in (
      goes_on c.args.text.now c.loop-rest.rest.now c.in-Some.line.now c.in-Some.after.now c.loop-rest.steps.items c.take_line.new.steps.items c.loop-rest.number took.0
          c.loop-rest.invariant.0 cut.0 cut.1 took.1 took.2 took.3,
      omega (arith, c.loop-rest.invariant.1, simp length-append at (ap (λ (t : List ℕ). length t) cut.0)),
    )
