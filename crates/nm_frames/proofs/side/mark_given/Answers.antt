use Rattle.std.proofs.Common.{arith}
use Rattle.nm_frames.specs.Owed.{marked}
use Rattle.nm_frames.proofs.Changing.{changed_more}
use Rattle.nm_frames.proofs.side.mark_given.Goals as goal

pub loop-side-preserved : goal.loop-side-preserved
loop-side-preserved c = changed_more (marked c.args.channel) c.args.incoming.now c.loop-side.incoming c.loop-side.side-index c.side-item.result _ (omega arith) c.loop-side.invariant c.side-item.is c.marked.ensures
