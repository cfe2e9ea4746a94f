use Rattle.std.proofs.Common.{◌≡◌, ◌≤◌, All, length, Option}
use Rattle.std.specs.Arc.{arc_value}
use Rattle.nm_files.specs.Files.{AreCounted}
use Rattle.nm_files.specs.Outputs.{Files}
use Rattle.nm_run.specs.Files.{AreAsMany, HoldsSome}
use Rattle.nm_run.proofs.files.gather_files.Given as goal

abbrev pub invariant-loop-number : goal.invariant-loop-number
invariant-loop-number g l = record {
  within : l.number ≤ length (arc_value l.plan.topology.now).ifaces;
  count : length l.all.files.items ≡ l.number;
  some : (made : Option Files) → All (λ own. AreCounted g.S.Sink.seen made own.files.items) l.fn.files.items
      → All (λ own. AreCounted g.S.Sink.seen made own.files.items) l.files.items × All (HoldsSome g.S.Sink.seen made) l.all.files.items;
  totals : AreAsMany l.totals l.all.files.items;
}
