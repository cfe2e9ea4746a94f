use Rattle.std.proofs.Common.{◌≡◌, ◌++◌, take, drop, map}
use Rattle.nm_frames.specs.Session.{new_incoming}
use Rattle.nm_frames.proofs.side.forget_given.Given as goal

abbrev pub invariant-loop-side : goal.invariant-loop-side
invariant-loop-side l = l.incoming ≡ map (λ i. new_incoming i.channel) (take l.side-index l.initial.incoming) ++ drop l.side-index l.initial.incoming
