use Rattle.std.proofs.Common.{◌≡◌, ◌++◌, take, drop, map}
use Rattle.nm_frames.specs.Session.{new_outgoing}
use Rattle.nm_frames.proofs.side.forget_cursors.Given as goal

abbrev pub invariant-loop-side : goal.invariant-loop-side
invariant-loop-side l = l.outgoing ≡ map (λ o. new_outgoing o.channel) (take l.side-index l.initial.outgoing) ++ drop l.side-index l.initial.outgoing
