use Rattle.std.proofs.Common.{◌≡◌, ◌≤◌, ℕ, List, Option, codes, length, map}
use Rattle.nm_base.specs.declared.record.Record.{Record}
use Rattle.nm_files.specs.Checked.{HaveRead, looked_at}
use Rattle.nm_offline.specs.All.{is_asked_for}
use Rattle.nm_offline.specs.Verify.{wanted_line}
use Rattle.nm_offline.proofs.InterfaceLines.{HasGiven}
use Rattle.nm_offline.proofs.verify.verified_text.Given as goal

abbrev pub invariant-loop-number : goal.invariant-loop-number
invariant-loop-number g l = record {
  within : l.number ≤ length l.network.ifaces;
  so_far : (texts : ℕ → Option (List ℕ)) (left : g.row.B.Denot → Option (List ℕ)) (names : List (List ℕ)) (records : List (Record (List ℕ))) → HaveRead texts left records l.files.files.items
      → looked_at l.files.files.items ≡ map (is_asked_for names) l.network.ifaces → HasGiven (wanted_line names records) l.network.ifaces l.number (codes "verified\n") l.text.items;
}
