use Rattle.std.proofs.Common.{◌≤◌, ◌++◌, ℕ, List, Option, length, take}
use Rattle.nm_base.specs.declared.record.Record.{Record}
use Rattle.nm_files.specs.Least.{AreReadBelow}
use Rattle.nm_files.specs.declared.least_checked.LeastChecked.{LeastChecked}
use Rattle.nm_files.proofs.least_checked.LeastChecked.put_all.Given as goal

abbrev pub invariant-loop-number : goal.invariant-loop-number
invariant-loop-number g l = record {
  within : l.number ≤ length l.records;
  read : (texts : ℕ → Option (List ℕ)) (begun : LeastChecked g.row.B.Denot) (before : List (Record (List ℕ))) → AreReadBelow texts g.B.Read.remaining begun before l.fn.self
      → AreReadBelow texts g.B.Read.remaining begun (before ++ take l.number l.records) l.self;
}
