use Rattle.std.proofs.Common.{◌≡◌, ◌⊎◌, ◌*◌, ◌≤◌, true, false}
use Rattle.nm_replica.specs.declared.limits.TheConstants.{MAX_HANDED}
use Rattle.nm_replica.specs.Recording.{Streams, WroteAsCounted}
use Rattle.nm_replica.specs.Served.{WasFinished}
use Rattle.nm_replica.proofs.recording.write_records.Given as goal

abbrev pub invariant-loop-turn : goal.invariant-loop-turn
invariant-loop-turn g l = record {
  streams : Streams g.S.Sink.seen g.C.Counts.exact g.C.Counts.home l.initial.files.files.items l.files.files.items;
  wrote : WroteAsCounted g.S.Sink.seen g.C.Counts.exact g.C.Counts.home l.all.written l.initial.files.files.items l.files.files.items;
  more : (l.turn ≡ 0) ⊎ (l.all.has_more ≡ true);
  many : l.turn * MAX_HANDED ≤ l.all.written;
  last : l.all.is_last ≡ true → WasFinished g.C.Counts.exact g.C.Counts.home false;
}
