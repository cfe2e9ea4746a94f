use Rattle.std.proofs.Common.{◌≡◌, ◌<◌, ◌≤◌, ◌++◌, length, Some, slice_get, rules, ap, ◌∙◌, subst, sym, arith, append-nil, codes}
use Rattle.std.proofs.lemmas.List.{take_all}
use Rattle.nm_report.specs.Values.{all_counts, head}
use Rattle.nm_report.proofs.Pieces.{nodes_more}
use Rattle.nm_report.proofs.csv.nodes_text.Goals as goal

pub loop-number-init : goal.loop-number-init
loop-number-init c =
    let first : c.push_text.new.text.items ≡ head = search rules in
    record {
      within = omega arith;
      values = λ until m. first ∙ sym (append-nil head);
      ends = record { front = codes "kind,name,measure,value"; is = first };
    }

pub loop-number-preserved : goal.loop-number-preserved
loop-number-preserved c =
    let t = c.args.topology.now in
    let n = c.loop-number.number in
    let low : n < length t.nodes = search rules in
    let same : c.node_number-node.result ≡ n = search rules in
    let at = subst (λ i. slice_get t.nodes i ≡ Some c.node.result.now) same c.node.ensures in
    record {
      within = omega (arith, low);
      values = λ until m. nodes_more t m.events t.nodes n c.node.result.now c.node_number-node.result c.name-name.result.now head c.loop-number.text.items c.push_node.new.text.items at same c.name-name.ensures
          (c.loop-number.invariant.values until m) (c.in_ok-push_node.ensures.is t until m (omega (arith, low, same)));
      ends = c.in_ok-push_node.ensures.ends;
    }

pub returns-clause-is : goal.returns-clause-is
returns-clause-is c = λ until m.
    let t = c.args.topology.now in
    let over : length t.nodes ≤ c.loop-number.number = search rules in
    c.loop-number.invariant.values until m ∙ ap (λ l. head ++ all_counts t m.events 0 l) (take_all c.loop-number.number t.nodes over)
