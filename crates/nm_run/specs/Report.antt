-- The result of a run.
use Rattle.std.specs.Prelude.{◌≡◌, ◌⊎◌, ℕ, ◌+◌, ◌*◌, ◌<◌, List, length, slice_get, Some, Result, Ok, Err}
use Rattle.nm_base.specs.declared.fault.Fault.{Fault}
use Rattle.nm_base.specs.declared.fault.Fault.TheVariants.{Memory, Refused}
use Rattle.nm_base.specs.declared.record.Record.{Record}
use Rattle.nm_topology.specs.TopologyValue.{TopologyValue}
use Rattle.nm_sim.specs.Totals.{totals_of}
use Rattle.nm_sim.specs.Trace.{IsTraceBefore}
use Rattle.nm_book.specs.Book.{BookValue}
use Rattle.nm_rounds.specs.Certify.{AreCertified, Certifies}
use Rattle.nm_rounds.specs.declared.certify.CertFault.{CertFault}
use Rattle.nm_run.specs.declared.fault.RunCause.{RunCause}
use Rattle.nm_run.specs.declared.fault.RunCause.TheVariants.{NotCertified}
use Rattle.nm_run.specs.declared.report.IfaceTotals.{IfaceTotals}

-- the totals of an interface are those of its records in the trace of the one event list, over the
-- whole run
abbrev pub IsTotal : TopologyValue → ℕ → IfaceTotals → Type 0
IsTotal t i x =
    (records : List (Record (List ℕ))) → IsTraceBefore t t.stop records
    → (x.records, x.octets) ≡ totals_of i records

-- those of all interfaces, by number
pub record AreTotals (t : TopologyValue) (totals : List IfaceTotals) : Type 0 where
  pub count : length totals ≡ length t.ifaces
  pub each : (i : ℕ) (x : IfaceTotals) → slice_get totals i ≡ Some x → IsTotal t i x

-- Books of all partitions were certified, and the totals are those of the one event list.
pub record IsCertifiedRun (t : TopologyValue) (found : List IfaceTotals) : Type 0 where
  pub books : List BookValue
  pub certified : AreCertified t books
  pub totals : AreTotals t found

-- the book of the replica with this number, if each partition has so many replicas: by partition
-- and replica
pub record IsInPlace (replicas number : ℕ) (b : BookValue) : Type 0 where
  pub replica : b.replica < replicas
  pub number_is : number ≡ b.partition * replicas + b.replica

abbrev pub AreInPlace : ℕ → List BookValue → Type 0
AreInPlace replicas books =
    (i : ℕ) (b : BookValue) → slice_get books i ≡ Some b → IsInPlace replicas i b

-- the books of a run: one of each replica, in their order
pub record AreOfRun (t : TopologyValue) (replicas : ℕ) (books : List BookValue) : Type 0 where
  pub count : length books ≡ t.partitions * replicas
  pub placed : AreInPlace replicas books

-- the books of a run were compared, and this is the first fault that the certificate found
abbrev pub IsNotCertified : TopologyValue → ℕ → CertFault → Type 0
IsNotCertified t replicas fault =
    (books : List BookValue) × AreOfRun t replicas books × Certifies t books (Err fault)

-- the certificate's answer about books, as the fault of a run; or memory was refused
abbrev pub CertifiesRun : TopologyValue → List BookValue → Result Unit (Fault RunCause) → Type 0
CertifiesRun t books (Ok u) = AreCertified t books
CertifiesRun t books (Err fault) = (fault ≡ Memory)
    ⊎ ((found : CertFault) × (fault ≡ Refused (NotCertified found))
    × Certifies t books (Err found))
