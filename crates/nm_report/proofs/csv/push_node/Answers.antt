use Rattle.std.proofs.Common.{◌<◌, ◌≤◌, ◌++◌, length, ap, ◌∙◌, codes, rules, arith}
use Rattle.std.proofs.lemmas.List.{take_all}
use Rattle.nm_report.specs.Values.{node_counts, value_line}
use Rattle.nm_report.proofs.Pieces.{counts_more}
use Rattle.nm_report.proofs.csv.push_node.Goals as goal

pub loop-place-preserved : goal.loop-place-preserved
loop-place-preserved c =
    let n = c.loop-place.place in
    let all = c.args.counters.now in
    let old = c.loop-place.text.items in
    let counter = c.counter_at-counter.result in
    let low : n < length all = search rules in
    record {
      within = omega (arith, low);
      counts = λ t until m there. counts_more t m.events all n counter c.args.node c.count_of.result c.args.name.now c.args.text.now.items old c.push_line.new.text.items c.counter_at-counter.ensures
          (c.count_of.ensures t until m there) (c.loop-place.invariant.counts t until m there)
          (c.in_ok-push_line.ensures.is ∙ (λ k. old ++ value_line (codes "node") (c.as_bytes.ensures.value k) ((c.as_bytes-in-loop-place.ensures.value ∙ c.name.ensures) k) c.count_of.result));
      ends = c.in_ok-push_line.ensures.ends;
    }

pub returns-clause-is : goal.returns-clause-is
returns-clause-is c = λ t until m there.
    let over : length c.args.counters.now ≤ c.loop-place.place = search rules in
    c.loop-place.invariant.counts t until m there
    ∙ ap (λ l. c.args.text.now.items ++ node_counts t m.events c.args.node c.args.name.now l) (take_all c.loop-place.place c.args.counters.now over)
