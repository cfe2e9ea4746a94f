use Rattle.std.proofs.Common.{false, true, refl, arith}
use Rattle.std.proofs.lemmas.Grind.{common_steps}
use Rattle.std.specs.List.{list_any}
use Rattle.nm_check.proofs.Repeats.{front-and-one, is-among, is-not-among}
use Rattle.nm_check.proofs.doubles.first_double.Goals as goal

pub returns-then-not-fresh : goal.returns-then-not-fresh
returns-then-not-fresh g c =
    let keys = c.loop-item.seen.keys in
    front-and-one g.T.PartialEq.eq c.args.items.now c.loop-item.second c.loop-item.item-index c.item-item.result keys true c.loop-item.invariant.number c.loop-item-test.true c.item-item.is c.loop-item.invariant.so_far c.loop-item.invariant.clean
    (is-among c.in_ok-first.fresh (list_any (g.T.PartialEq.eq c.item-item.result) keys) c.in_ok-first.ensures.added c.if-not-fresh.true)

pub loop-item-preserved : goal.loop-item-preserved
loop-item-preserved g c =
    let keys = c.loop-item.seen.keys in
    record {
      number = omega (arith, c.loop-item.invariant.number);
      so_far = grind (arith, common_steps);
      clean = (front-and-one g.T.PartialEq.eq c.args.items.now c.loop-item.item-index c.loop-item.item-index c.item-item.result keys false refl c.loop-item-test.true c.item-item.is c.loop-item.invariant.so_far c.loop-item.invariant.clean
          (is-not-among c.in_ok-first.fresh (list_any (g.T.PartialEq.eq c.item-item.result) keys) c.in_ok-first.ensures.added c.if-not-fresh.false)).1;
    }
