use Rattle.std.proofs.Common.{rules}
use Rattle.nm_replica.proofs.Hands.{one_more_admitted}
use Rattle.nm_replica.proofs.connections.Connections.accept_all.Goals as goal

pub loop-had-preserved : goal.loop-had-preserved
loop-had-preserved g c = record {
  idle = search rules;
  waits = search rules;
  accepts = search rules;
  admitted =
      one_more_admitted c.loop-had._had c.args.self.now.contacts c.loop-had.self.contacts c.make_room.new.self.contacts c.keep.new.self.contacts c.loop-had.invariant.admitted
      c.make_room.ensures.room c.in_ok-keep.ensures.keeps;
}
