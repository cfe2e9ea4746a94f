use Rattle.std.proofs.Common.{◌≡◌, ◌<◌, ◌≤◌, ℕ, List, Option, IfSome, length, true}
use Rattle.nm_base.specs.declared.record.Record.{Record}
use Rattle.nm_files.specs.Checked.{HaveRead, is_looked_at, looked_at}
use Rattle.nm_files.specs.TraceFile.{octets_after}
use Rattle.nm_offline.proofs.verify.finish_all.Given as goal

abbrev pub invariant-loop-number : goal.invariant-loop-number
invariant-loop-number g l = record {
  within : l.number ≤ length l.network.ifaces;
  looked : looked_at l.files.files.items ≡ looked_at l.fn.files.files.items;
  read : (texts : ℕ → Option (List ℕ)) (records : List (Record (List ℕ))) → HaveRead texts g.B.Read.remaining records l.fn.files.files.items
      → HaveRead texts g.B.Read.remaining records l.files.files.items;
  whole : (texts : ℕ → Option (List ℕ)) (records : List (Record (List ℕ))) → HaveRead texts g.B.Read.remaining records l.fn.files.files.items
      → (n : ℕ) → n < l.number → is_looked_at l.fn.files.files.items n ≡ true → IfSome (texts n) (λ text. text ≡ octets_after n records);
}
