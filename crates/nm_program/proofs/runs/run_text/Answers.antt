use Rattle.std.proofs.Common.{◌<◌, ◌≤◌, length, codes, arith, rules}
use Rattle.nm_sim.specs.Totals.{totals_of}
use Rattle.nm_offline.specs.Lines.{iface_line}
use Rattle.nm_offline.proofs.InterfaceLines.{all_given, one_given}
use Rattle.nm_program.proofs.runs.run_text.Goals as goal

pub loop-number-preserved : goal.loop-number-preserved
loop-number-preserved c =
    let low : c.loop-number.number < length c.args.topology.now.ifaces = search rules in
    record {
      within = omega (arith, low);
      so_far = λ records trace. one_given (λ i. iface_line i.1 (totals_of i.0 records)) c.args.topology.now.ifaces c.loop-number.number (codes "certified\n") c.loop-number.text.items c.push_total.new.text.items low
          (c.loop-number.invariant.so_far records trace) (c.in_ok-push_total.ensures records trace);
    }

pub returns : goal.returns
returns c = λ records trace.
    let over : length c.args.topology.now.ifaces ≤ c.loop-number.number = search rules in
    all_given (λ i. iface_line i.1 (totals_of i.0 records)) c.args.topology.now.ifaces c.loop-number.number (codes "certified\n") c.loop-number.text.items
    (omega (arith, c.loop-number.invariant.within, over)) (c.loop-number.invariant.so_far records trace)
