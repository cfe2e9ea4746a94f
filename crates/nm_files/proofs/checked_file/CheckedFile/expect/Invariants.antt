use Rattle.std.proofs.Common.{◌≡◌, ◌≤◌, ◌-◌, ℕ, List, ◌++◌, Option, length, take}
use Rattle.nm_files.specs.Checked.{HasRead}
use Rattle.nm_files.proofs.checked_file.CheckedFile.expect.Given as goal

abbrev pub invariant-loop-at : goal.invariant-loop-at
invariant-loop-at g l = record {
  within : l.at ≤ length l.octets;
  read : (texts : ℕ → Option (List ℕ)) (n : ℕ) (before : List ℕ) → HasRead texts g.B.Read.remaining n before l.fn.self
      → HasRead texts g.B.Read.remaining n (before ++ take l.at l.octets) l.self;
  records : l.self.records ≡ l.fn.self.records;
}

abbrev pub decreases-loop-at : goal.decreases-loop-at
decreases-loop-at g l = length l.octets - l.at
