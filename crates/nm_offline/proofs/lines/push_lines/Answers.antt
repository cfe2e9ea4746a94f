use Rattle.std.proofs.Common.{◌<◌, ◌≤◌, length, arith, rules}
use Rattle.nm_offline.specs.Lines.{iface_line}
use Rattle.nm_offline.proofs.InterfaceLines.{all_given, one_given}
use Rattle.nm_offline.proofs.lines.push_lines.Goals as goal

pub loop-number-preserved : goal.loop-number-preserved
loop-number-preserved c =
    let low : c.loop-number.number < length c.args.topology.now.ifaces = search rules in
    record {
      within = omega (arith, low);
      so_far = λ totals are. one_given (λ i. iface_line i.1 (totals i.0)) c.args.topology.now.ifaces c.loop-number.number c.args.text.now.items c.loop-number.text.items c.push_line_of.new.text.items low
          (c.loop-number.invariant.so_far totals are) (c.in_ok-push_line_of.ensures totals are);
    }

pub returns : goal.returns
returns c = λ totals are.
    let over : length c.args.topology.now.ifaces ≤ c.loop-number.number = search rules in
    all_given (λ i. iface_line i.1 (totals i.0)) c.args.topology.now.ifaces c.loop-number.number c.args.text.now.items c.loop-number.text.items
    (omega (arith, c.loop-number.invariant.within, over)) (c.loop-number.invariant.so_far totals are)
