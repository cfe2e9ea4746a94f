use Rattle.std.proofs.Common.{◌<◌, ℕ, sym, subst, ◌∙◌, arith}
use Rattle.nm_alike.proofs.Same.{answers_decide, both_decide, numbers_decide, traces_decide, turned, with_next}
use Rattle.nm_alike.specs.Alike.{AgreeOn}
use Rattle.nm_alike.proofs.are_alike.Goals as goal

pub loop-number-preserved : goal.loop-number-preserved
loop-number-preserved c =
    let here = c.agree_on.ensures.0 c.if-not-agree_on.false in
    with_next {P = λ n. AgreeOn c.args.one.now c.args.other.now n} c.loop-number.number c.loop-number.invariant
    (subst (λ n. AgreeOn c.args.one.now c.args.other.now n) c.new.ensures here)

pub returns : goal.returns
returns c =
    let safe = turned c.safe.ensures c.safe-2.ensures (numbers_decide c.safe.result c.safe-2.result) in
    let events = turned c.events.ensures.value c.events-2.ensures.value (numbers_decide c.events.result c.events-2.result) in
    let done = turned c.done.ensures c.done-2.ensures (answers_decide c.done.result c.done-2.result) in
    let handed = turned c.handed.ensures c.handed-2.ensures (numbers_decide c.handed.result c.handed-2.result) in
    let records = turned c.records.ensures c.records-2.ensures (numbers_decide c.records.result c.records-2.result) in
    let trace = turned c.trace.ensures c.trace-2.ensures (traces_decide c.trace.result.now c.trace-2.result.now) in
    let all = both_decide (both_decide (both_decide (both_decide (both_decide safe events) done) handed) records) trace in
    let agree : (channel : ℕ) → channel < c.args.channels → AgreeOn c.args.one.now c.args.other.now channel = λ channel small. c.loop-number.invariant channel (omega (arith, c.loop-number-test.false)) in (
      λ h. let w = all.0 (sym c.eq.ensures ∙ h) in record { agree = agree; safe = w.0.0.0.0.0; events = w.0.0.0.0.1; done = w.0.0.0.1; handed = w.0.0.1; records = w.0.1; trace = w.1 },
      λ r. c.eq.ensures ∙ all.1 (((((r.safe, r.events), r.done), r.handed), r.records), r.trace),
    )
