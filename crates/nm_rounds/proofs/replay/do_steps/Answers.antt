use Rattle.std.proofs.Common.{◌+◌, sym, subst, arith}
use Rattle.std.specs.Arc.{arc_value}
use Rattle.nm_rounds.proofs.Replays.{IsReplaying, goes_on, named_nothing, was_interrupted}
use Rattle.nm_rounds.proofs.replay.do_steps.Goals as goal

pub returns-in-Err-NoSuch : goal.returns-in-Err-NoSuch
returns-in-Err-NoSuch c =
    named_nothing (arc_value c.args.topology.now) c.args.steps.now c.loop-number.number c.loop-number.answers.items c.loop-number.books.items c.do_step.new.books.items
    c.loop-number.bag.items c.do_step.new.bag.items c.index-steps-number.result c.loop-number.invariant.0 c.loop-number-test.true c.index-steps-number.is
    _ c.in-Err-NoSuch.field-0-is c.in-Err-NoSuch.ensures

pub returns-in-Err-Memory : goal.returns-in-Err-Memory
returns-in-Err-Memory c =
    was_interrupted (arc_value c.args.topology.now) c.args.steps.now c.loop-number.number c.loop-number.answers.items c.loop-number.books.items c.do_step.new.books.items
    c.loop-number.bag.items c.do_step.new.bag.items c.index-steps-number.result c.loop-number.invariant.0 c.loop-number-test.true c.index-steps-number.is
    _ c.in-Err-Memory.field-0-is c.in-Err-Memory.ensures

pub loop-number-preserved : goal.loop-number-preserved
loop-number-preserved c =
    let t = arc_value c.args.topology.now in
    let more = goes_on t c.args.steps.now c.loop-number.number c.loop-number.answers.items c.loop-number.books.items c.do_step.new.books.items
    c.loop-number.bag.items c.do_step.new.bag.items c.index-steps-number.result c.loop-number.invariant.0 c.loop-number-test.true c.index-steps-number.is
    c.in-Ok.answer c.in-Ok.ensures in (
      subst (λ k. IsReplaying t c.args.steps.now (c.loop-number.number + 1) k c.do_step.new.books.items c.do_step.new.bag.items) (sym c.push_reserved.ensures.items) more,
      (let a = c.push_reserved.ensures.len in let b = c.loop-number.invariant.1 in omega (arith, a, b)),
      (let a = c.push_reserved.ensures.capacity in let b = c.loop-number.invariant.2 in omega (arith, a, b)),
    )
