use Rattle.std.proofs.Common.{◌≡◌, ◌<◌, ◌++◌, length, rules, sym, subst, arith, append-nil}
use Rattle.nm_measure.specs.Counted.{delays_of}
use Rattle.nm_measure.specs.Delays.{greatest_behind}
use Rattle.nm_measure.specs.Ways.{ends_in}
use Rattle.nm_series.specs.Flows.{flow_rows}
use Rattle.nm_series.proofs.FlowRows.{rows_next}
use Rattle.nm_series.proofs.flow_rows.push_rows.Goals as goal

pub loop-number-init : goal.loop-number-init
loop-number-init c = record {
  within = omega arith;
  rows = λ first until recent m was is. sym (append-nil c.args.text.now.items);
}

pub loop-number-preserved : goal.loop-number-preserved
loop-number-preserved c =
    let t = c.args.topology.now in
    let j = c.loop-number.number in
    let low : j < length t.sources = search rules in
    let same : c.source_number.result ≡ j = search rules in
    record {
      within = omega (arith, low);
      rows = λ first until recent m was is.
          let since = recent.seen.since in
          let steps = m.steps in
          let value = c.events.ensures.value in
          let most = c.events.ensures.most in
          let late = subst (λ k. c.recent_delay-greatest.result ≡ greatest_behind (length (delays_of k (ends_in t first))) (delays_of k (ends_in t m.events))) same
          (c.recent_delay-greatest.ensures t first until recent m (omega (arith, low, same))) in
          rows_next t c.args.from first m.events j (omega (arith, since, steps)) (omega (arith, steps, value, most)) c.args.before.now c.args.after.now was is low _ _ c.recent_delay-greatest.result late
          c.args.text.now.items c.loop-number.text.items c.push_row.new.text.items (c.loop-number.invariant.rows first until recent m was is) c.in_ok-push_row.ensures;
    }

pub returns : goal.returns
returns c = λ first until recent m was is.
    let t = c.args.topology.now in
    let over : length t.sources ≡ c.loop-number.number = search rules in
    subst (λ k. c.loop-number.text.items ≡ c.args.text.now.items ++ flow_rows t c.args.from first m.events k) (sym over) (c.loop-number.invariant.rows first until recent m was is)
