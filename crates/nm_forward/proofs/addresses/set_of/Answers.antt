use Rattle.std.proofs.Common.{arith}
use Rattle.std.specs.Prelude.{nat_eq}
use Rattle.std.proofs.lemmas.Grind.{common_steps}
use Rattle.std.proofs.lemmas.List.Folds.{list_any_more}
use Rattle.nm_forward.proofs.addresses.set_of.Goals as goal

pub loop-address-preserved : goal.loop-address-preserved
loop-address-preserved c =
    λ q. grind (
      arith,
      common_steps,
      list_any_more
          (nat_eq q) c.args.list.now c.loop-address.address-index 0,
      c.loop-address.invariant q,
    )
