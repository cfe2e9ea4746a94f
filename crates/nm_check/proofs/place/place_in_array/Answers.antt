use Rattle.std.proofs.Common.{◌≡◌, ◌≤◌, Option, sym, ◌∙◌, subst, arith, length}
use Rattle.std.specs.Prelude.{IfOk}
use Rattle.nm_check.specs.declared.place.FaultPlace.{FaultPlace}
use Rattle.nm_topology.specs.Keys.{array_limit}
use Rattle.nm_check.proofs.Places.{in-array}
use Rattle.nm_check.proofs.place.place_in_array.Goals as goal

pub returns-in-Some : goal.returns-in-Some
returns-in-Some c =
    let few : length c.args.items.now ≤ array_limit c.args.array = omega (arith, c.limit.ensures) in
    let whole = in-array c.args.head c.args.array c.args.items.now c.in-Some.fault (sym c.all_fit.ensures ∙ c.if-not-all_fit.false) few (sym c.in_ok-fault.ensures ∙ c.in-Some.is) in
    subst (λ (p : Option FaultPlace). IfOk c.place_at.result (λ found. found ≡ p)) (sym whole) c.place_at.ensures
