use Rattle.std.proofs.Common.{◌≡◌, ℕ, false, List, take}
use Rattle.nm_base.specs.declared.record.Record.{Record}
use Rattle.nm_base.specs.declared.wanted.Wanted.TheVariants.{One}
use Rattle.nm_events.specs.Held.{pending_of}
use Rattle.nm_sim.specs.Records.{cut}
use Rattle.nm_sim.specs.Trace.{IsTraceBefore}
use Rattle.nm_sim.specs.Tracing.{IsTracing}
use Rattle.nm_files.specs.Writing.{WroteOn}
use Rattle.nm_files.specs.TraceFile.{written_at}
use Rattle.nm_offline.specs.Traces.{going}
use Rattle.nm_offline.proofs.Showings.{shown}
use Rattle.nm_offline.proofs.trace_file.write_all_of.Given as goal

abbrev pub invariant-loop-event : goal.invariant-loop-event
invariant-loop-event g l = record {
  tracing : IsTracing pending_of l.topology l.tracer;
  wanted : l.tracer.records.keeping.wanted ≡ One l.traced.iface;
  sound : l.file.failed ≡ false;
  front : (records : List (Record (List ℕ))) → IsTraceBefore l.topology l.topology.stop records
      → WroteOn g.S.Sink.seen l.initial.file l.file (written_at l.initial.file.form l.traced.iface (going l.traced.ways (take (shown l.tracer.records) (cut (One l.traced.iface) records))));
}
