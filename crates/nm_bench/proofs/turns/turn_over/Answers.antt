use Rattle.std.proofs.Common.{ap, ◌∙◌, arith}
use Rattle.std.specs.FinMap.{get}
use Rattle.nm_base.specs.Event.{event_place}
use Rattle.nm_base.specs.Key.{key_of}
use Rattle.nm_events.proofs.Fresh.{not_yet, still_not}
use Rattle.nm_bench.proofs.turns.turn_over.Goals as goal

pub put-requires-clause-fresh : goal.put-requires-clause-fresh
put-requires-clause-fresh g c =
    let key = key_of c.from_nanoseconds.result (event_place c.in-Some.entry.2) c.loop-number.number in
    ap (λ m. get m key) c.in-Some.ensures.rest ∙ still_not _ _ key (c.loop-number.invariant.fresh key (omega arith))

pub loop-number-preserved : goal.loop-number-preserved
loop-number-preserved g c =
    let before = c.loop-number.invariant in
    record {
      room = omega (arith, before.room, c.in-Some.ensures.room, c.put.ensures.room);
      fresh = λ q h. ap (λ m. get m q) c.put.ensures.pending
          ∙ not_yet _ _ q _ (ap (λ m. get m q) c.in-Some.ensures.rest ∙ still_not _ _ q (before.fresh q (omega (arith, h)))) (omega (arith, h));
      random = c.next-random.ensures;
    }
