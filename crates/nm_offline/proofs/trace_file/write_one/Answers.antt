use Rattle.std.proofs.Common.{◌≡◌, true, false, sym, subst, rules}
use Rattle.nm_files.specs.Writing.{WroteOn, WritesOn}
use Rattle.nm_files.proofs.Pieces.{WroteOn-nil}
use Rattle.nm_offline.specs.Traces.{goes}
use Rattle.nm_offline.proofs.Ways.{nothing_going, one_going}
use Rattle.nm_offline.proofs.trace_file.write_one.Goals as goal

pub returns-then-not-goes : goal.returns-then-not-goes
returns-then-not-goes g c =
    let other : goes c.args.traced.now.ways c.args.record.now.dir ≡ false = search rules in
    subst (WroteOn g.S.Sink.seen c.args.file.now c.args.file.now)
    (sym (nothing_going c.args.file.now.form c.args.traced.now.iface c.args.traced.now.ways c.args.record.now other)) (WroteOn-nil g.S.Sink.seen c.args.file.now c.requires.sound)

pub returns : goal.returns
returns g c =
    let there : goes c.args.traced.now.ways c.args.record.now.dir ≡ true = search rules in
    subst (WritesOn g.S.Sink.seen c.args.file.now c.write_at.new.file c.write_at.result)
    (sym (one_going c.args.file.now.form c.args.traced.now.iface c.args.traced.now.ways c.args.record.now there)) c.write_at.ensures
