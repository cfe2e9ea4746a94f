use Rattle.std.proofs.Common.{sym, subst}
use Rattle.nm_files.specs.TraceFile.{trace_file}
use Rattle.nm_files.specs.Writing.{Writes, WritesOn}
use Rattle.nm_files.proofs.Pieces.{Writes-of}
use Rattle.nm_offline.specs.Traces.{going}
use Rattle.nm_offline.proofs.trace_file.write_trace_file.Goals as goal

pub returns : goal.returns
returns g c records trace =
    let outcome = c.write_file-outcome.result in
    let file = trace_file c.args.form c.args.traced.now.iface (going c.args.traced.now.ways records) in
    subst (λ s. Writes (g.S.Sink.seen c.args.sink) (g.S.Sink.seen s) outcome file) (sym c.into_sink.ensures)
    (Writes-of g.S.Sink.seen _ _ outcome file
    (subst (λ w. WritesOn g.S.Sink.seen w c.write_file-outcome.new.file outcome (trace_file w.form c.args.traced.now.iface (going c.args.traced.now.ways records))) c.in_form-file.ensures
    (c.write_file-outcome.ensures records trace)))
