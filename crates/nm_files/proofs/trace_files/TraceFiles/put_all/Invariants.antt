use Rattle.std.proofs.Common.{◌≤◌, length, take}
use Rattle.nm_files.specs.Files.{FilesTook}
use Rattle.nm_files.proofs.trace_files.TraceFiles.put_all.Given as goal

abbrev pub invariant-loop-number : goal.invariant-loop-number
invariant-loop-number g l = record {
  within : l.number ≤ length l.records;
  took : FilesTook g.S.Sink.seen (take l.number l.records) l.fn.self.files.items l.self.files.items;
}
