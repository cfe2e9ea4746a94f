use Rattle.std.proofs.Common.{arith}
use Rattle.nm_frames.specs.Owed.{with_null}
use Rattle.nm_frames.specs.Session.{with_channel}
use Rattle.nm_frames.proofs.Changing.{changed_more}
use Rattle.nm_frames.proofs.side.set_last_null.Goals as goal

pub loop-side-preserved : goal.loop-side-preserved
loop-side-preserved c = changed_more (with_channel c.args.null.now.channel (with_null c.args.null.now)) c.args.outgoing.now c.loop-side.outgoing c.loop-side.side-index c.side-item.result _ (omega arith) c.loop-side.invariant c.side-item.is c.with_null.ensures
