use Rattle.std.proofs.Common.{◌≡◌, ◌==◌, true, false, rules, sym, subst}
use Rattle.nm_pcap.specs.Format.{record_octets}
use Rattle.nm_pcap.specs.Writing.{written}
use Rattle.nm_files.specs.Writing.{WroteOn, WritesOn}
use Rattle.nm_files.proofs.Pieces.{WroteOn-nil, WritesOn-put}
use Rattle.nm_files.proofs.Records.{written_elsewhere, written_there}
use Rattle.nm_files.proofs.trace_file.write_at.Goals as goal

pub returns-then-ne : goal.returns-then-ne
returns-then-ne g c =
    let other : (c.args.record.now.iface == c.args.iface) ≡ false = search rules in
    subst (WroteOn g.S.Sink.seen c.args.file.now c.args.file.now) (sym (written_elsewhere c.args.file.now.form c.args.iface c.args.record.now other))
    (WroteOn-nil g.S.Sink.seen c.args.file.now c.requires.sound)

pub returns : goal.returns
returns g c =
    let same : (c.args.record.now.iface == c.args.iface) ≡ true = search rules in
    subst (WritesOn g.S.Sink.seen c.args.file.now c.put.new.self c.sink_outcome.result) (sym (written_there c.args.file.now.form c.args.iface c.args.record.now same))
    (WritesOn-put g.S.Sink.seen _ _ c.put.result _ (written c.args.file.now.form (record_octets c.args.record.now)) c.sink_outcome.ensures c.requires.sound c.put.ensures)
