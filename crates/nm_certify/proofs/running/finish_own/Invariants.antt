use Rattle.std.proofs.Common.{◌≡◌, ◌<◌, ◌≤◌, ℕ, List, OnOk, Option, IfSome, length, true}
use Rattle.nm_base.specs.declared.record.Record.{Record}
use Rattle.nm_model.specs.Partition.{receiver_of}
use Rattle.nm_sim.specs.Network.{net_of}
use Rattle.nm_files.specs.Checked.{HaveRead, is_looked_at}
use Rattle.nm_files.specs.Least.{AreOpenBelow, AreReadBelow}
use Rattle.nm_files.specs.TraceFile.{octets_after}
use Rattle.nm_files.specs.declared.least_checked.LeastChecked.{LeastChecked}
use Rattle.nm_certify.specs.Checking.{IsUnlikeTheirs}
use Rattle.nm_certify.proofs.running.finish_own.Given as goal

abbrev pub invariant-loop-number : goal.invariant-loop-number
invariant-loop-number g l = record {
  within : l.number ≤ length l.topology.ifaces;
  read : (texts : ℕ → Option (List ℕ)) (begun : LeastChecked g.row.B.Denot) (records : List (Record (List ℕ))) → OnOk l.fn.checked (AreReadBelow texts g.B.Read.remaining begun records l.fn.files)
      → HaveRead texts g.B.Read.remaining records l.files.files.files.items;
  least : (texts : ℕ → Option (List ℕ)) (begun : LeastChecked g.row.B.Denot) (records : List (Record (List ℕ))) → OnOk l.fn.checked (AreReadBelow texts g.B.Read.remaining begun records l.fn.files)
      → AreOpenBelow begun (IsUnlikeTheirs texts l.topology l.partition records begun) l.files.files.files.items l.files.differs;
  whole : (texts : ℕ → Option (List ℕ)) (begun : LeastChecked g.row.B.Denot) (records : List (Record (List ℕ))) → OnOk l.fn.checked (AreReadBelow texts g.B.Read.remaining begun records l.fn.files)
      → (n : ℕ) → n < l.number → receiver_of (net_of l.topology) n ≡ l.partition → is_looked_at l.files.files.files.items n ≡ true → IfSome (texts n) (λ text. text ≡ octets_after n records);
}
