use Rattle.std.proofs.Common.{arith}
use Rattle.nm_frames.specs.Session.{restarted, with_channel}
use Rattle.nm_frames.proofs.Changing.{changed_more}
use Rattle.nm_frames.proofs.side.restart.Goals as goal

pub loop-side-preserved : goal.loop-side-preserved
loop-side-preserved c = changed_more (with_channel c.args.channel (restarted c.args.count)) c.args.outgoing.now c.loop-side.outgoing c.loop-side.side-index c.side-item.result _ (omega arith) c.loop-side.invariant c.side-item.is c.restarted.ensures
