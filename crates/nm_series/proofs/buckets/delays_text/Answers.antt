use Rattle.std.proofs.Common.{◌≡◌, ◌<◌, ◌+◌, ◌++◌, suc, length, rules, ap, subst, ◌∙◌, arith}
use Rattle.nm_series.specs.Buckets.{AreBuckets, AreDelayRows, bucket_head}
use Rattle.nm_series.proofs.buckets.delays_text.Goals as goal

pub loop-number-init : goal.loop-number-init
loop-number-init c = record {
  within = omega arith;
  rows = λ until m. c.in_ok-push_head.ensures.is ∙ ap (λ l. l ++ bucket_head) c.new-text.ensures.items;
  ends = c.in_ok-push_head.ensures.ends;
}

pub loop-number-preserved : goal.loop-number-preserved
loop-number-preserved c =
    let t = c.args.topology.now in
    let n = c.loop-number.number in
    let low : n < length t.sources = search rules in
    let same : c.source_number.result ≡ n = search rules in
    let next : suc n ≡ n + 1 = omega arith in
    record {
      within = omega (arith, low);
      rows = λ until m.
          let more = c.in_ok-push_source.ensures.is t until m (omega (arith, low, same)) in
          subst (λ k. AreDelayRows t m.events k c.push_source.new.text.items) next (
            c.loop-number.text.items,
            more.0,
            c.loop-number.invariant.rows until m,
            subst (λ k. AreBuckets t m.events k more.0) same more.1,
            more.2,
          );
      ends = c.in_ok-push_source.ensures.ends;
    }

pub returns-clause-rows : goal.returns-clause-rows
returns-clause-rows c = λ until m.
    let t = c.args.topology.now in
    let over : c.loop-number.number ≡ length t.sources = search rules in
    subst (λ k. AreDelayRows t m.events k c.loop-number.text.items) over (c.loop-number.invariant.rows until m)
