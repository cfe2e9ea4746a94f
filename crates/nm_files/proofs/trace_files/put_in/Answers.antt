use Rattle.std.proofs.Common.{◌∷◌, [], Some, sym, subst, rules}
use Rattle.nm_pcap.specs.Format.{record_octets}
use Rattle.nm_pcap.specs.Writing.{written}
use Rattle.nm_files.specs.Files.{FileFailed, FileTook}
use Rattle.nm_files.proofs.Files.{not_written, own_took}
use Rattle.nm_files.proofs.trace_files.put_in.Goals as goal

pub returns-in-Ok-clause-took : goal.returns-in-Ok-clause-took
returns-in-Ok-clause-took g c =
    subst (λ o. FileTook g.S.Sink.seen (c.args.record.now ∷ []) c.args.iface o (Some c.put.new.self)) (sym c.in-Some.is)
    (own_took g.S.Sink.seen c.args.record.now c.in-Some.file c.put.new.self c.args.iface c.requires.here c.in-Ok.ensures)

pub returns-in-Err-clause-failed : goal.returns-in-Err-clause-failed
returns-in-Err-clause-failed g c =
    subst (λ o. FileFailed g.S.Sink.seen c.args.record.now c.fault_of.result.written o (Some c.put.new.self)) (sym c.in-Some.is)
    (not_written g.S.Sink.seen c.in-Some.file c.put.new.self c.in-Err.field-0 (written c.in-Some.file.form (record_octets c.args.record.now)) c.fault_of.result.written (search rules) c.in-Err.ensures)
