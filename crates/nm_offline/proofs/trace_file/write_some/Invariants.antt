use Rattle.std.proofs.Common.{◌≡◌, ◌≤◌, false, length, take}
use Rattle.nm_files.specs.Writing.{WroteOn}
use Rattle.nm_files.specs.TraceFile.{written_at}
use Rattle.nm_offline.specs.Traces.{going}
use Rattle.nm_offline.proofs.trace_file.write_some.Given as goal

abbrev pub invariant-loop-number : goal.invariant-loop-number
invariant-loop-number g l = record {
  within : l.number ≤ length l.records;
  sound : l.file.failed ≡ false;
  front : WroteOn g.S.Sink.seen l.initial.file l.file (written_at l.initial.file.form l.traced.iface (going l.traced.ways (take l.number l.records)));
}
