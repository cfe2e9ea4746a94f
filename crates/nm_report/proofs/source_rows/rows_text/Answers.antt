use Rattle.std.proofs.Common.{◌≡◌, ◌<◌, ◌+◌, ◌++◌, suc, length, Some, slice_get, rules, refl, sym, ap, subst, ◌∙◌, arith, codes}
use Rattle.nm_report.specs.Sources.{AreRows, HasMeasures, row_values, source_text}
use Rattle.nm_report.proofs.Pieces.{node_of, regrouped}
use Rattle.nm_report.proofs.source_rows.rows_text.Goals as goal

pub loop-number-preserved : goal.loop-number-preserved
loop-number-preserved c =
    let t = c.args.topology.now in
    let n = c.loop-number.number in
    let low : n < length t.sources = search rules in
    let same : c.source_number-place.result ≡ n = search rules in
    let next : suc n ≡ n + 1 = omega arith in
    let s = c.source_at.result.now in
    let node = node_of t n s c.source_at.ensures c.accepted_topologies_are_in_order.ensures.placed in
    record {
      within = omega (arith, low);
      rows = λ until m.
          let more = c.in_ok-push_measures.ensures t until m (omega (arith, low, same)) in
          let which = source_text n node.0.name s in
          subst (λ k. AreRows t m.events k c.end_row.new.text.items) next (
            c.loop-number.text.items,
            which ++ row_values more.0 ++ codes "\n",
            c.loop-number.invariant.rows until m,
            record {
              source = s;
              at = c.source_at.ensures;
              node = node.0;
              here = node.1;
              values = more.0;
              have = subst (λ k. HasMeasures t m.events k more.0) same more.1;
              is = refl;
            },
            c.in_ok-end_row.ensures.is ∙ ap (λ l. l ++ codes "\n") (more.2 ∙ ap (λ l. l ++ row_values more.0) (c.in_ok-push_source.ensures node.0 node.1 ∙ ap (λ k. c.loop-number.text.items ++ source_text k node.0.name s) same))
                ∙ regrouped c.loop-number.text.items which (row_values more.0) (codes "\n"),
          );
      ends = c.in_ok-end_row.ensures.ends;
    }

pub returns-clause-rows : goal.returns-clause-rows
returns-clause-rows c = λ until m.
    let t = c.args.topology.now in
    let over : c.loop-number.number ≡ length t.sources = search rules in
    subst (λ k. AreRows t m.events k c.loop-number.text.items) over (c.loop-number.invariant.rows until m)
