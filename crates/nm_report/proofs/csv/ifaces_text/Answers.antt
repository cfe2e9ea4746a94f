use Rattle.std.proofs.Common.{◌≡◌, ◌<◌, ◌≤◌, length, Some, slice_get, rules, ap, ◌∙◌, subst, arith, inr}
use Rattle.std.proofs.lemmas.List.{take_all}
use Rattle.nm_report.specs.Values.{all_values}
use Rattle.nm_report.proofs.Pieces.{values_more}
use Rattle.nm_report.proofs.csv.ifaces_text.Goals as goal

pub loop-number-preserved : goal.loop-number-preserved
loop-number-preserved c =
    let t = c.args.topology.now in
    let n = c.loop-number.number in
    let low : n < length t.ifaces = search rules in
    let same : c.iface_number-iface.result ≡ n = search rules in
    let at = subst (λ i. slice_get t.ifaces i ≡ Some c.iface.result.now) same c.iface.ensures in
    record {
      within = omega (arith, low);
      values = λ until m. values_more t m.events t.ifaces n c.iface.result.now c.iface_number-iface.result c.name.result.now c.loop-number.text.items c.push_iface.new.text.items at same c.name.ensures
          (c.loop-number.invariant.values until m) (c.in_ok-push_iface.ensures.is t until m (omega (arith, low, same)));
      ends = inr c.in_ok-push_iface.ensures.ends;
    }

pub returns-clause-is : goal.returns-clause-is
returns-clause-is c = λ until m.
    let t = c.args.topology.now in
    let over : length t.ifaces ≤ c.loop-number.number = search rules in
    c.loop-number.invariant.values until m ∙ ap (all_values t m.events 0) (take_all c.loop-number.number t.ifaces over)
