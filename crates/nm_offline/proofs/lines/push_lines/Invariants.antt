use Rattle.std.proofs.Common.{ℕ, ◌≤◌, length}
use Rattle.nm_offline.specs.Lines.{AreTotals}
use Rattle.nm_offline.proofs.InterfaceLines.{HasLines}
use Rattle.nm_offline.proofs.lines.push_lines.Given as goal

abbrev pub invariant-loop-number : goal.invariant-loop-number
invariant-loop-number l = record {
  within : l.number ≤ length l.topology.ifaces;
  so_far : (totals : ℕ → ℕ × ℕ) → AreTotals l.topology l.books totals → HasLines totals l.topology l.number l.fn.text.items l.text.items;
}
