use Rattle.std.proofs.Common.{◌≡◌, ◌<◌, ◌≤◌, length, slice_get, rules, sym, ap, subst, ◌∙◌, arith, ⊎_elim}
use Rattle.nm_model.specs.Run.{one_list}
use Rattle.nm_sim.specs.Network.{net_of}
use Rattle.nm_measure.specs.Queues.{in_octets, in_packets}
use Rattle.nm_series.specs.Rows.{busy_by, had, waited_by}
use Rattle.nm_series.proofs.RowsMore.{pushed}
use Rattle.nm_series.proofs.iface_rows.IfaceTotalsTotals.all_before.Goals as goal

pub loop-number-preserved : goal.loop-number-preserved
loop-number-preserved c =
    let t = c.args.topology.now in
    let n = c.loop-number.number in
    let low : n < length t.ifaces = search rules in
    let same : c.iface_number.result ≡ n = search rules in
    let count = c.loop-number.invariant.count in
    let more = c.in_ok-push.ensures.items in
    record {
      within = omega (arith, low);
      count = search rules;
      over_time = λ m i x got. ⊎_elim
          (λ before. c.loop-number.invariant.over_time m i x before)
          (λ last.
          let at : c.iface_number.result ≡ i = same ∙ sym count ∙ sym last.0 in (
            ap (λ v. v.waited) last.1 ∙ subst (λ j. c.totals.result.waited ≡ waited_by in_packets t j c.args.time m.events) at (c.totals.ensures.waited t m),
            ap (λ v. v.octets_waited) last.1 ∙ subst (λ j. c.totals.result.octets_waited ≡ waited_by in_octets t j c.args.time m.events) at (c.totals.ensures.octets t m),
            ap (λ v. v.busy) last.1 ∙ subst (λ j. c.totals.result.busy ≡ busy_by t j c.args.time m.events) at (c.totals.ensures.busy t m),
          ))
          (pushed c.loop-number.all.items c.totals.result i x (sym (ap (λ l. slice_get l i) more) ∙ got));
      each = λ m i x got.
          let s = one_list (net_of t) m.events in
          ⊎_elim
          (λ before. c.loop-number.invariant.each m i x before)
          (λ last.
          let at : c.iface_number.result ≡ i = same ∙ sym count ∙ sym last.0 in (
            ap (λ v. v.traffic) last.1 ∙ subst (λ j. c.totals.result.traffic ≡ (had j s).traffic) at (c.totals.ensures.traffic t c.args.time m),
            ap (λ v. v.dropped) last.1 ∙ subst (λ j. c.totals.result.dropped ≡ (had j s).dropped) at (c.totals.ensures.dropped t c.args.time m),
          ))
          (pushed c.loop-number.all.items c.totals.result i x (sym (ap (λ l. slice_get l i) more) ∙ got));
    }

pub returns : goal.returns
returns c =
    let m = c.requires in
    let n = c.loop-number.number in
    let low = c.loop-number.invariant.within in
    let over : length c.args.topology.now.ifaces ≤ n = search rules in
    let count = c.loop-number.invariant.count in
    record {
      events = m.events;
      over = m.over;
      totals = record { count = omega (arith, low, over, count); each = c.loop-number.invariant.each m };
      over_time = c.loop-number.invariant.over_time m;
    }
