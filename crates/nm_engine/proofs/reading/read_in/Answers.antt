use Rattle.std.proofs.Common.{◌≡◌, length, arith, inl, inr, refl, sym, ◌∙◌, true≢false}
use Rattle.nm_base.specs.declared.limits.TheConstants.{MAX_READ_OCTETS}
use Rattle.nm_engine.proofs.Readings.{came_none, read_none, read_some}
use Rattle.nm_engine.proofs.reading.read_in.Goals as goal

pub returns-in-Got-clause-reads : goal.returns-in-Got-clause-reads
returns-in-Got-clause-reads g c =
    let size : length c.read_some.new.buffer ≡ MAX_READ_OCTETS = omega arith in
    read_some (g.W.Wire.seen c.args.wire.now) (g.W.Wire.seen c.read_some.new.self) c.args.may_end c.in-Got.count c.read_some.new.buffer c.args.reader.now c.feed.new.reader c.feed.new.frames.items c.feed.result size c.in-Got.ensures.reads.0 c.in-Got.ensures.reads.1 c.feed.ensures.feeds

pub returns-then-may_end-clause-reads : goal.returns-then-may_end-clause-reads
returns-then-may_end-clause-reads g c =
    read_none (g.W.Wire.seen c.args.wire.now) (g.W.Wire.seen c.read_some.new.self) c.args.may_end c.args.reader.now c.args.frames.now.items c.requires.none c.in-End.ensures.reads.0.0 c.in-End.ensures.reads.0.1 c.requires.sound (λ is. absurd (true≢false (sym c.if-may_end.true ∙ is)))

pub returns-else-may_end-clause-reads : goal.returns-else-may_end-clause-reads
returns-else-may_end-clause-reads g c =
    (_, came_none (g.W.Wire.seen c.args.wire.now) (g.W.Wire.seen c.read_some.new.self) c.args.reader.now.rest c.args.frames.now.items c.requires.none c.in-End.ensures.reads.0.0, inl (refl, c.in-End.ensures.reads.1, c.if-may_end.false, c.in-End.ensures.reads.0.1))

pub returns-in-Later-clause-reads : goal.returns-in-Later-clause-reads
returns-in-Later-clause-reads g c =
    read_none (g.W.Wire.seen c.args.wire.now) (g.W.Wire.seen c.read_some.new.self) c.args.may_end c.args.reader.now c.args.frames.now.items c.requires.none c.in-Later.ensures.reads.0.0 c.in-Later.ensures.reads.0.1 c.requires.sound (λ is. c.in-Later.ensures.reads.1)

pub returns-in-Fault-clause-reads : goal.returns-in-Fault-clause-reads
returns-in-Fault-clause-reads g c =
    (_, came_none (g.W.Wire.seen c.args.wire.now) (g.W.Wire.seen c.read_some.new.self) c.args.reader.now.rest c.args.frames.now.items c.requires.none c.in-Fault.ensures.reads.0.0, inr (inl (refl, c.requires.none, c.in-Fault.ensures.reads.0.1)))
