use Rattle.std.proofs.Common.{◌≡◌, ◌<◌, ◌≤◌, length, slice_get, rules, sym, ap, subst, ◌∙◌, arith, ⊎_elim}
use Rattle.nm_base.specs.Count.{saturated}
use Rattle.nm_model.proofs.ListLemmas.{not_some}
use Rattle.nm_sim.specs.Network.{net_of}
use Rattle.nm_measure.specs.Counted.{HasTotals}
use Rattle.nm_measure.specs.Sent.{sent_in}
use Rattle.nm_measure.specs.Ways.{ends_in}
use Rattle.nm_measure.specs.declared.totals.FlowTotals.{FlowTotals}
use Rattle.nm_series.proofs.RowsMore.{pushed}
use Rattle.nm_series.proofs.flow_rows.FlowTotalsTotals.all_before.Goals as goal

pub loop-number-init : goal.loop-number-init
loop-number-init c = record {
  within = omega arith;
  count = ap length c.new-all.ensures.items;
  each = λ m i x got. absurd (not_some x (sym (ap (λ l. slice_get l i) c.new-all.ensures.items) ∙ got));
}

pub loop-number-preserved : goal.loop-number-preserved
loop-number-preserved c =
    let t = c.args.topology.now in
    let n = c.loop-number.number in
    let low : n < length t.sources = search rules in
    let same : c.source_number.result ≡ n = search rules in
    let count = c.loop-number.invariant.count in
    let more = c.in_ok-push.ensures.items in
    record {
      within = omega (arith, low);
      count = search rules;
      each = λ m i x got. ⊎_elim
          (λ before. c.loop-number.invariant.each m i x before)
          (λ last.
          let at : c.source_number.result ≡ i = same ∙ sym count ∙ sym last.0 in
          let there : c.source_number.result < length t.sources = omega (arith, low, same) in
          subst (λ (v : FlowTotals). (v.sent ≡ saturated (sent_in (net_of t) i m.events)) × HasTotals i (ends_in t m.events) v) (sym last.1)
          (subst (λ j. (c.flow_totals.result.sent ≡ saturated (sent_in (net_of t) j m.events)) × HasTotals j (ends_in t m.events) c.flow_totals.result) at
          (c.flow_totals.ensures.sent t c.args._time m there, c.flow_totals.ensures.totals t c.args._time m there)))
          (pushed c.loop-number.all.items c.flow_totals.result i x (sym (ap (λ l. slice_get l i) more) ∙ got));
    }

pub returns : goal.returns
returns c =
    let m = c.requires in
    let n = c.loop-number.number in
    let low = c.loop-number.invariant.within in
    let over : length c.args.topology.now.sources ≤ n = search rules in
    let count = c.loop-number.invariant.count in
    record {
      events = m.events;
      over = m.over;
      totals = record { count = omega (arith, low, over, count); each = c.loop-number.invariant.each m };
    }
