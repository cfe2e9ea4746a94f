use Rattle.std.proofs.Common.{◌≡◌, ℕ, List, [], flat_map, Ok, Err, ap, subst}
use Rattle.std.proofs.lemmas.Result.{err_from_is_err_and}
use Rattle.nm_base.specs.declared.record.Record.{Record}
use Rattle.nm_base.specs.declared.wanted.Wanted.TheVariants.{One}
use Rattle.nm_pcap.specs.declared.form.Form.{Form}
use Rattle.nm_pcap.specs.Format.{file_header, record_octets}
use Rattle.nm_pcap.specs.Writing.{ending, written}
use Rattle.nm_files.specs.Writing.{WritesOn, WroteOn}
use Rattle.nm_sim.specs.Records.{cut}
use Rattle.nm_sim.proofs.Cuts.{cut-here}
use Rattle.nm_files.proofs.Pieces.{WritesOn-put, WroteAll-nil, WroteAll-part}
use Rattle.nm_files.proofs.Records.{cut_in_header, cut_in_records, to_the_end}
use Rattle.nm_files.specs.TraceFile.{written_at}
use Rattle.nm_base.specs.declared.fault.Fault.TheVariants.{Memory}
use Rattle.nm_offline.specs.Traces.{goes, going}
use Rattle.nm_offline.specs.declared.trace_file.Traced.{Traced}
use Rattle.nm_offline.proofs.trace_file.write_file.Goals as goal

-- of the records of the interface alone as much is written as of all
all_at : (form : Form) (traced : Traced) (records : List (Record (List ℕ))) → written_at form traced.iface (going traced.ways (cut (One traced.iface) records)) ≡ written_at form traced.iface (going traced.ways records)
all_at form traced records = ap (λ l. written form (flat_map record_octets l)) (cut-here (λ r. goes traced.ways r.dir) traced.iface records)

pub returns-in_err-sink_outcome : goal.returns-in_err-sink_outcome
returns-in_err-sink_outcome g c records trace =
    let p = err_from_is_err_and c.from_residual.result c.from_residual.ensures.1 in
    rw (p.1, p.2) (cut_in_header g.S.Sink.seen c.args.traced.now.iface (going c.args.traced.now.ways records) c.args.file.now c.start.new.self c.in_err-sink_outcome.field-0.0
    (WritesOn-put g.S.Sink.seen c.args.file.now c.start.new.self c.start.result _ (written c.args.file.now.form file_header) c.in_err-sink_outcome.ensures c.requires c.start.ensures))

pub returns-in_err-tracer : goal.returns-in_err-tracer
returns-in_err-tracer g c records trace =
    let p = err_from_is_err_and c.from_residual-in_err-tracer.result c.from_residual-in_err-tracer.ensures.1 in
    let begun : WroteOn g.S.Sink.seen c.args.file.now c.start.new.self (written c.args.file.now.form file_header) =
    WritesOn-put g.S.Sink.seen c.args.file.now c.start.new.self c.start.result (Ok tt) (written c.args.file.now.form file_header) c.in_ok-sink_outcome.ensures c.requires c.start.ensures in
    let file = c.start.new.self in
    rw (p.1, p.2) (cut_in_records g.S.Sink.seen c.args.traced.now.iface (going c.args.traced.now.ways records) c.args.file.now file file Memory begun
    (WroteAll-part (g.S.Sink.seen file.sink) (g.S.Sink.seen file.sink) [] (written_at file.form c.args.traced.now.iface (going c.args.traced.now.ways records)) (WroteAll-nil (g.S.Sink.seen file.sink))))

pub returns-in_err-write_all_of : goal.returns-in_err-write_all_of
returns-in_err-write_all_of g c records trace =
    let p = err_from_is_err_and c.from_residual-in_err-write_all_of.result c.from_residual-in_err-write_all_of.ensures.1 in
    let begun : WroteOn g.S.Sink.seen c.args.file.now c.start.new.self (written c.args.file.now.form file_header) =
    WritesOn-put g.S.Sink.seen c.args.file.now c.start.new.self c.start.result (Ok tt) (written c.args.file.now.form file_header) c.in_ok-sink_outcome.ensures c.requires c.start.ensures in
    rw (p.1, p.2) (cut_in_records g.S.Sink.seen c.args.traced.now.iface (going c.args.traced.now.ways records) c.args.file.now c.start.new.self c.write_all_of.new.file _ begun (subst (WritesOn g.S.Sink.seen c.start.new.self c.write_all_of.new.file (Err c.in_err-write_all_of.field-0.0)) (all_at c.start.new.self.form c.args.traced.now records) (c.in_err-write_all_of.ensures records trace)))

pub returns : goal.returns
returns g c records trace =
    let begun : WroteOn g.S.Sink.seen c.args.file.now c.start.new.self (written c.args.file.now.form file_header) =
    WritesOn-put g.S.Sink.seen c.args.file.now c.start.new.self c.start.result (Ok tt) (written c.args.file.now.form file_header) c.in_ok-sink_outcome.ensures c.requires c.start.ensures in
    let middle = subst (WroteOn g.S.Sink.seen c.start.new.self c.write_all_of.new.file) (all_at c.start.new.self.form c.args.traced.now records) (c.in_ok-write_all_of.ensures records trace) in
    to_the_end g.S.Sink.seen c.args.traced.now.iface (going c.args.traced.now.ways records) c.args.file.now c.start.new.self c.write_all_of.new.file c.end.new.self c.sink_outcome-2.result begun middle
    (WritesOn-put g.S.Sink.seen c.write_all_of.new.file c.end.new.self c.end.result _ (ending c.write_all_of.new.file.form) c.sink_outcome-2.ensures middle.sound c.end.ensures)
