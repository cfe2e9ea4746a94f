use Rattle.std.proofs.Common.{◌≡◌, ◌≤◌, ◌++◌, ℕ, List, Option, length, take}
use Rattle.nm_base.specs.declared.record.Record.{Record}
use Rattle.nm_files.specs.Checked.{HaveRead, looked_at}
use Rattle.nm_files.proofs.checked_files.CheckedFiles.put_all.Given as goal

abbrev pub invariant-loop-number : goal.invariant-loop-number
invariant-loop-number g l = record {
  within : l.number ≤ length l.records;
  looked : looked_at l.self.files.items ≡ looked_at l.fn.self.files.items;
  read : (texts : ℕ → Option (List ℕ)) (before : List (Record (List ℕ))) → HaveRead texts g.B.Read.remaining before l.fn.self.files.items
      → HaveRead texts g.B.Read.remaining (before ++ take l.number l.records) l.self.files.items;
}
