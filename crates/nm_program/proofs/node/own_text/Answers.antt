use Rattle.std.proofs.Common.{◌<◌, [], length, arith, rules}
use Rattle.nm_book.specs.Book.{state_of}
use Rattle.nm_program.specs.Node.{own_line}
use Rattle.nm_offline.proofs.InterfaceLines.{one_given}
use Rattle.nm_program.proofs.node.own_text.Goals as goal

pub loop-number-preserved : goal.loop-number-preserved
loop-number-preserved c =
    let low : c.loop-number.number < length c.args.topology.now.ifaces = search rules in
    record {
      within = omega (arith, low);
      so_far = one_given (own_line c.args.topology.now c.args.partition (state_of c.args.book.now).records) c.args.topology.now.ifaces c.loop-number.number [] c.loop-number.text.items c.push_own.new.text.items low
          c.loop-number.invariant.so_far c.in_ok-push_own.ensures;
    }
