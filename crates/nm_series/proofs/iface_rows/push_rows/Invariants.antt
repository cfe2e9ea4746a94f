use Rattle.std.proofs.Common.{◌≡◌, ◌≤◌, ◌-◌, ◌++◌, ℕ, List, length}
use Rattle.nm_forward.specs.State.{NodeStateValue}
use Rattle.nm_model.specs.Run.{State}
use Rattle.nm_series.specs.Rows.{AreSeenBetween, AreTotals, rows_of}
use Rattle.nm_series.specs.declared.iface_rows.IfaceSeen.{IfaceSeen}
use Rattle.nm_series.proofs.iface_rows.push_rows.Given as goal

abbrev pub invariant-loop-number : goal.invariant-loop-number
invariant-loop-number l = record {
  within : l.number ≤ length l.topology.ifaces;
  rows : (seen : List IfaceSeen) × (length seen ≡ l.number) × AreSeenBetween l.measured l.before l.after (l.span.until - l.span.from) seen
      × ((old new : State (List ℕ) NodeStateValue) → AreTotals l.topology old l.before → AreTotals l.topology new l.after
      → l.text.items ≡ l.initial.text.items ++ rows_of l.span.from old new 0 l.topology.ifaces seen);
}
