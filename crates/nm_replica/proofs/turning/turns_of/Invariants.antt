use Rattle.nm_engine.specs.Passes.{owner_if}
use Rattle.nm_replica.specs.Turns.{Progresses}
use Rattle.nm_replica.proofs.turning.turns_of.Given as goal

abbrev pub invariant-loop-had : goal.invariant-loop-had
invariant-loop-had g l = record {
  so_far : Progresses (λ w. g.W.Wire.seen w.wire) (owner_if g.C.Counts.exact g.C.Counts.home) l.talk.does l._had l.fn.link l.link;
}
