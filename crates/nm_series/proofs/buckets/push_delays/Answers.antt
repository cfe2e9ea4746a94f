use Rattle.std.proofs.Common.{◌<◌, ◌≤◌, ◌++◌, length, rules, sym, ap, ◌∙◌, arith, append-nil}
use Rattle.std.proofs.lemmas.List.{take_all}
use Rattle.nm_series.specs.Buckets.{bucket_rows}
use Rattle.nm_series.proofs.BucketRows.{row_next}
use Rattle.nm_series.proofs.buckets.push_delays.Goals as goal

pub loop-place-init : goal.loop-place-init
loop-place-init c = record {
  within = omega arith;
  rows = sym (append-nil c.args.text.now.items);
  ends = c.requires;
}

pub loop-place-preserved : goal.loop-place-preserved
loop-place-preserved c =
    let d = c.args.delays.now in
    let low : c.loop-place.place < length d.spread.rows.items = search rules in
    record {
      within = omega (arith, low);
      rows = row_next c.args.source d.spread.is_rounded d.spread.rows.items c.loop-place.place c.bucket.result c.args.text.now.items c.loop-place.text.items c.push_bucket.new.text.items
          c.bucket.ensures c.loop-place.invariant.rows c.in_ok-push_bucket.ensures.is;
      ends = c.in_ok-push_bucket.ensures.ends;
    }

pub returns-clause-is : goal.returns-clause-is
returns-clause-is c =
    let d = c.args.delays.now in
    let over : length d.spread.rows.items ≤ c.loop-place.place = search rules in
    c.loop-place.invariant.rows ∙ ap (λ l. c.args.text.now.items ++ bucket_rows c.args.source d.spread.is_rounded l) (take_all c.loop-place.place d.spread.rows.items over)
