use Rattle.std.proofs.Common.{ap, ◌∙◌, arith}
use Rattle.std.specs.FinMap.{get, get-empty}
use Rattle.nm_base.specs.Key.{key_cmp}
use Rattle.nm_events.proofs.Fresh.{not_yet}
use Rattle.nm_network_tests.proofs.tests.events.fill.Goals as goal

pub loop-number-init : goal.loop-number-init
loop-number-init g c =
    let reserved = c.in_ok-reserve.ensures in
    record {
      room = omega (arith, reserved.room);
      fresh = λ q h. ap (λ m. get m q) (reserved.same ∙ c.requires) ∙ get-empty key_cmp q;
      time = omega arith;
    }

pub loop-number-preserved : goal.loop-number-preserved
loop-number-preserved g c =
    record {
      room = omega (arith, c.loop-number.invariant.room, c.put.ensures.room);
      fresh = λ q h. ap (λ m. get m q) c.put.ensures.pending ∙ not_yet _ _ q _ (c.loop-number.invariant.fresh q (omega (arith, h))) h;
      time = omega arith;
    }
