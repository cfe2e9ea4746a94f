use Rattle.std.proofs.Common.{ℕ, List, ◌∙◌, subst}
use Rattle.std.specs.Prelude.{IfOk}
use Rattle.nm_check.specs.Doubles.{IsFirstDouble, same_key}
use Rattle.nm_check.proofs.whole.double_route.Goals as goal

pub returns : goal.returns
returns c =
    subst (λ (keys : List (ℕ × ℕ × ℕ)). IfOk c.first_double.result (λ found. IsFirstDouble same_key keys found)) (c.deref.ensures.value ∙ c.in_ok-keys.ensures) c.first_double.ensures
