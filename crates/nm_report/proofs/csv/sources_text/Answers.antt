use Rattle.std.proofs.Common.{◌≡◌, ◌<◌, ◌+◌, ◌++◌, suc, length, Some, slice_get, rules, sym, ap, subst, ◌∙◌, arith}
use Rattle.nm_report.specs.Sources.{AreLinesOf, AreSourceLines}
use Rattle.nm_report.proofs.csv.sources_text.Goals as goal

pub loop-number-init : goal.loop-number-init
loop-number-init c = record {
  within = omega arith;
  lines = λ until m. c.new-text.ensures.items;
  ends = search rules;
}

pub loop-number-preserved : goal.loop-number-preserved
loop-number-preserved c =
    let t = c.args.topology.now in
    let n = c.loop-number.number in
    let low : n < length t.sources = search rules in
    let same : c.source_number.result ≡ n = search rules in
    let next : suc n ≡ n + 1 = omega arith in
    record {
      within = omega (arith, low);
      lines = λ until m.
          let more = c.in_ok-push_source.ensures.values t until m (omega (arith, low, same)) in
          subst (λ k. AreSourceLines t m.events k c.push_source.new.text.items) next (
            c.loop-number.text.items,
            more.0,
            c.loop-number.invariant.lines until m,
            c.source_at.result.now,
            c.source_at.ensures,
            subst (λ k. AreLinesOf t m.events k c.source_at.result.now more.0) same more.1,
            more.2,
          );
      ends = c.in_ok-push_source.ensures.lines;
    }

pub returns-clause-is : goal.returns-clause-is
returns-clause-is c = λ until m.
    let t = c.args.topology.now in
    let over : c.loop-number.number ≡ length t.sources = search rules in
    subst (λ k. AreSourceLines t m.events k c.loop-number.text.items) over (c.loop-number.invariant.lines until m)
