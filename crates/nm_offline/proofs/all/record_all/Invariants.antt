use Rattle.std.proofs.Common.{◌≡◌, ℕ, List, take}
use Rattle.nm_base.specs.declared.record.Record.{Record}
use Rattle.nm_base.specs.declared.wanted.Wanted.TheVariants.{All}
use Rattle.nm_events.specs.Held.{pending_of}
use Rattle.nm_files.specs.Files.{FilesTook}
use Rattle.nm_sim.specs.Trace.{IsTraceBefore}
use Rattle.nm_sim.specs.Tracing.{IsTracing}
use Rattle.nm_offline.proofs.Showings.{shown}
use Rattle.nm_offline.proofs.all.record_all.Given as goal

abbrev pub invariant-loop-event : goal.invariant-loop-event
invariant-loop-event g l = record {
  tracing : IsTracing pending_of l.network l.tracer;
  wanted : l.tracer.records.keeping.wanted ≡ All;
  took : (records : List (Record (List ℕ))) → IsTraceBefore l.network l.network.stop records
      → FilesTook g.S.Sink.seen (take (shown l.tracer.records) records) l.fn.files.files.items l.files.files.items;
}
