use Rattle.std.proofs.Common.{◌≡◌, ◌<◌, ◌+◌, ◌-◌, ◌++◌, ◌∷◌, [], length, rules, Some, slice_get, refl, sym, ap, subst, ◌∙◌, arith, append-nil, length-append}
use Rattle.nm_measure.specs.Busy.{thousandths_of}
use Rattle.nm_series.specs.Rows.{mean_between, whole_mean_between}
use Rattle.nm_series.proofs.RowsMore.{no_rows, none_between, one_between, row_next}
use Rattle.nm_series.proofs.iface_rows.push_rows.Goals as goal

pub loop-number-init : goal.loop-number-init
loop-number-init c =
    let ifaces = c.args.topology.now.ifaces in
    record {
      within = omega arith;
      rows = (
        [],
        refl,
        none_between c.args.measured.now c.args.before.now c.args.after.now (c.args.span.now.until - c.args.span.now.from),
        λ old new was is. sym (ap (λ l. c.args.text.now.items ++ l) (no_rows c.args.span.now.from old new 0 ifaces) ∙ append-nil c.args.text.now.items),
      );
    }

pub loop-number-preserved : goal.loop-number-preserved
loop-number-preserved c =
    let t = c.args.topology.now in
    let n = c.loop-number.number in
    let rows = c.loop-number.invariant.rows in
    let x = c.seen_of-seen.result in
    let time = c.args.span.now.until - c.args.span.now.from in
    let low : n < length t.ifaces = search rules in
    let same : c.iface_number-iface.result ≡ n = search rules in
    let at = subst (λ i. slice_get t.ifaces i ≡ Some c.iface.result.now) same c.iface.ensures in
    record {
      within = omega (arith, low);
      rows = (
        rows.0 ++ x ∷ [],
        length-append rows.0 (x ∷ []) ∙ ap (λ k. k + 1) rows.1,
        one_between c.args.measured.now c.args.before.now c.args.after.now time rows.0 x n c.iface_number-iface.result _ _ rows.1 same
            c.seen_of-seen.ensures.longest (c.seen_of-seen.ensures.mean ∙ ap (mean_between _ _) c.length.ensures)
            (c.seen_of-seen.ensures.octets ∙ ap (whole_mean_between _ _) c.length.ensures) (c.seen_of-seen.ensures.busy ∙ ap (thousandths_of _) c.length.ensures) rows.2,
        λ old new was is.
            row_next t c.args.span.now.from n old new c.args.before.now c.args.after.now _ _ rows.0 x c.iface.result.now c.name.result.now c.args.text.now.items
            c.loop-number.text.items c.push_row.new.text.items was is low rows.1 at c.name.ensures (rows.3 old new was is) c.in_ok-push_row.ensures,
      );
    }
