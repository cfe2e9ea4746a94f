use Rattle.std.proofs.Common.{◌≡◌, ℕ, List, [], Option, take}
use Rattle.nm_base.specs.declared.record.Record.{Record}
use Rattle.nm_base.specs.declared.wanted.Wanted.TheVariants.{All}
use Rattle.nm_events.specs.Held.{pending_of}
use Rattle.nm_files.specs.Checked.{HaveRead, looked_at}
use Rattle.nm_sim.specs.Trace.{IsTraceBefore}
use Rattle.nm_sim.specs.Tracing.{IsTracing}
use Rattle.nm_offline.proofs.Showings.{shown}
use Rattle.nm_offline.proofs.verify.check_records.Given as goal

abbrev pub invariant-loop-event : goal.invariant-loop-event
invariant-loop-event g l = record {
  tracing : IsTracing pending_of l.network l.tracer;
  wanted : l.tracer.records.keeping.wanted ≡ All;
  looked : looked_at l.files.files.items ≡ looked_at l.fn.files.files.items;
  read : (texts : ℕ → Option (List ℕ)) (records : List (Record (List ℕ))) → IsTraceBefore l.network l.network.stop records
      → HaveRead texts g.B.Read.remaining [] l.fn.files.files.items → HaveRead texts g.B.Read.remaining (take (shown l.tracer.records) records) l.files.files.items;
}
