use Rattle.std.proofs.Common.{rules, arith}
use Rattle.nm_replica.proofs.Recordings.{none_out, one_out}
use Rattle.nm_replica.proofs.acts.take_some.Goals as goal

pub loop-taken-init : goal.loop-taken-init
loop-taken-init c = record {
  within = omega arith;
  many = omega arith;
  room = search rules;
  takes = none_out c.args.book.now c.args.room.now.items;
}

pub loop-taken-preserved : goal.loop-taken-preserved
loop-taken-preserved c =
    let l = c.loop-taken in
    record {
      within = search rules;
      many = search rules;
      room = search rules;
      takes = one_out c.args.book.now l.book c.hand_out.new.self c.args.room.now.items l.room.items c.push_reserved.new.self.items c.hand_out.result c.in-Some.handed
          l.invariant.takes c.hand_out.ensures.value c.in-Some.is c.hand_out.ensures.same c.push_reserved.ensures.items;
    }
