use Rattle.std.proofs.Common.{◌<◌, ◌≤◌, codes, length, arith, rules}
use Rattle.nm_offline.specs.Verify.{wanted_line}
use Rattle.nm_offline.proofs.InterfaceLines.{all_given, one_given}
use Rattle.nm_offline.proofs.verify.verified_text.Goals as goal

pub loop-number-preserved : goal.loop-number-preserved
loop-number-preserved g c =
    let low : c.loop-number.number < length c.args.network.now.ifaces = search rules in
    record {
      within = omega (arith, low);
      so_far = λ texts left names records read looked.
          one_given (wanted_line names records) c.args.network.now.ifaces c.loop-number.number (codes "verified\n") c.loop-number.text.items c.push_looked.new.text.items low
          (c.loop-number.invariant.so_far texts left names records read looked) (c.in_ok-push_looked.ensures texts left names records read looked);
    }

pub returns : goal.returns
returns g c = λ texts left names records read looked.
    let over : length c.args.network.now.ifaces ≤ c.loop-number.number = search rules in
    all_given (wanted_line names records) c.args.network.now.ifaces c.loop-number.number (codes "verified\n") c.loop-number.text.items
    (omega (arith, c.loop-number.invariant.within, over)) (c.loop-number.invariant.so_far texts left names records read looked)
