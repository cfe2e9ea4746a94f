use Rattle.std.proofs.Common.{arith}
use Rattle.nm_frames.specs.Session.{new_outgoing}
use Rattle.nm_frames.proofs.Changing.{changed_more}
use Rattle.nm_frames.proofs.side.forget_cursors.Goals as goal

pub loop-side-preserved : goal.loop-side-preserved
loop-side-preserved c = changed_more (λ o. new_outgoing o.channel) c.args.outgoing.now c.loop-side.outgoing c.loop-side.side-index c.side-item.result _ (omega arith) c.loop-side.invariant c.side-item.is c.new.ensures
