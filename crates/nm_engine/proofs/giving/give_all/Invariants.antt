use Rattle.std.proofs.Common.{◌-◌, ◌≤◌, [], length, Option}
use Rattle.nm_engine.specs.Giving.{GivesFrames}
use Rattle.nm_engine.specs.Acceptor.{AcceptorValue}
use Rattle.nm_engine.specs.Passes.{owner_if, reached}
use Rattle.nm_base.specs.declared.limits.TheConstants.{FULL_OUT_OCTETS, MAX_OUT_OCTETS}
use Rattle.nm_engine.proofs.giving.give_all.Given as goal

abbrev pub invariant-loop-session : goal.invariant-loop-session
invariant-loop-session g l = record {
  gives : (h : Option AcceptorValue) → GivesFrames (owner_if g.C.Counts.exact g.C.Counts.home) h
      (reached g.C.Counts.exact g.C.Counts.messages_of g.C.Counts.events_of l.initial.session l.initial.pass.share)
      (reached g.C.Counts.exact g.C.Counts.messages_of g.C.Counts.events_of l.session l.pass.share) l.initial.out.items l.out.items [];
  most : length l.out.items ≤ MAX_OUT_OCTETS;
}

abbrev pub decreases-loop-session : goal.decreases-loop-session
decreases-loop-session g l = FULL_OUT_OCTETS - length l.out.items
