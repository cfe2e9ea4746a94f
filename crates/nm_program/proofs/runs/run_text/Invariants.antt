use Rattle.std.proofs.Common.{◌≤◌, length, List, ℕ, codes}
use Rattle.nm_base.specs.declared.record.Record.{Record}
use Rattle.nm_sim.specs.Totals.{totals_of}
use Rattle.nm_sim.specs.Trace.{IsTraceBefore}
use Rattle.nm_offline.proofs.InterfaceLines.{HasLines}
use Rattle.nm_program.proofs.runs.run_text.Given as goal

abbrev pub invariant-loop-number : goal.invariant-loop-number
invariant-loop-number l = record {
  within : l.number ≤ length l.topology.ifaces;
  so_far : (records : List (Record (List ℕ))) → IsTraceBefore l.topology l.topology.stop records → HasLines (λ i. totals_of i records) l.topology l.number (codes "certified\n") l.text.items;
}
