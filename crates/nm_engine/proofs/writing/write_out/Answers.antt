use Rattle.std.proofs.Common.{ℕ, List, ap, refl, subst}
use Rattle.nm_base.specs.Wire.{Goes}
use Rattle.nm_engine.proofs.Writings.{wrote_none, wrote_some}
use Rattle.nm_engine.proofs.writing.write_out.Goals as goal

pub returns-then-is_empty-clause-writes : goal.returns-then-is_empty-clause-writes
returns-then-is_empty-clause-writes g c =
    wrote_none (g.W.Wire.seen c.args.wire.now) (g.W.Wire.seen c.args.wire.now) c.args.out.now.items refl refl

pub returns-in-Took-clause-writes : goal.returns-in-Took-clause-writes
returns-in-Took-clause-writes g c =
    wrote_some (g.W.Wire.seen c.args.wire.now) (g.W.Wire.seen c.write_some.new.self) c.in-Took.count c.args.out.now.items c.advance.new.self.items
    (subst (λ (l : List ℕ). Goes (λ w. w.taken) (g.W.Wire.seen c.args.wire.now) (g.W.Wire.seen c.write_some.new.self) c.in-Took.count l) c.as_slice.ensures c.in-Took.ensures.writes) (ap (λ w. w.items) c.advance.ensures)

pub returns-in-Later-clause-writes : goal.returns-in-Later-clause-writes
returns-in-Later-clause-writes g c =
    wrote_none (g.W.Wire.seen c.args.wire.now) (g.W.Wire.seen c.write_some.new.self) c.args.out.now.items c.in-Later.ensures.writes.0 c.in-Later.ensures.writes.1
