use Rattle.std.proofs.Common.{◌≡◌, length, map, take}
use Rattle.nm_frames.specs.Lives.{Took}
use Rattle.nm_engine.specs.Lives.{LinkLives}
use Rattle.nm_engine.specs.Passes.{owner_if, reached}
use Rattle.nm_engine.proofs.taking.take_all.Given as goal

abbrev pub invariant-loop-frame : goal.invariant-loop-frame
invariant-loop-frame g l = record {
  lives : LinkLives (owner_if g.C.Counts.exact g.C.Counts.home) l.initial.party.acceptor
      (reached g.C.Counts.exact g.C.Counts.messages_of g.C.Counts.events_of l.initial.party.session l.initial.pass.share)
      (map Took (take (length l.yielded) l.fn.frames.items))
      (reached g.C.Counts.exact g.C.Counts.messages_of g.C.Counts.events_of l.party.session l.pass.share);
  keeps : l.party.acceptor ≡ l.initial.party.acceptor;
}
