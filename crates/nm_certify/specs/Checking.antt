-- How the files of a partition are checked.
use Rattle.std.specs.Prelude.{◌≡◌, ◌⊎◌, ℕ, ◌<◌, suc, true, All as AllOf, Contains, IfSome, List, [], ◌∷◌, length, slice_get, Option, Some, Result, Ok, Err}
use Rattle.nm_base.specs.declared.fault.Fault.{Fault}
use Rattle.nm_base.specs.declared.fault.Fault.TheVariants.{Memory, Refused}
use Rattle.nm_base.specs.declared.record.Record.{Record}
use Rattle.nm_model.specs.Partition.{receiver_of}
use Rattle.nm_topology.specs.TopologyValue.{TopologyValue}
use Rattle.nm_files.specs.Checked.{TextDiffers, is_looked_at}
use Rattle.nm_files.specs.Least.{AreBegun, HasRecord, IsLesser}
use Rattle.nm_files.specs.TraceFile.{octets_after}
use Rattle.nm_files.specs.declared.checked_file.ReadFailed.{ReadFailed}
use Rattle.nm_files.specs.declared.least_checked.Difference.{Difference}
use Rattle.nm_files.specs.declared.least_checked.LeastChecked.{LeastChecked}
use Rattle.nm_sim.specs.Network.{net_of}
use Rattle.nm_book.specs.Book.{BookValue, state_of}
use Rattle.nm_book.specs.declared.running.Ran.{Ran}
use Rattle.nm_book.specs.declared.running.Ran.TheVariants.{All, Limit, Memory as NoMemory}
use Rattle.nm_known.specs.Known.{ExplainsText}
use Rattle.nm_known.specs.declared.known_fault.KnownCause.{KnownCause}
use Rattle.nm_certify.specs.Certify.{HasDoneAll, IsBookOf, fresh_book}
use Rattle.nm_certify.specs.declared.fault.CertifyCause.{CertifyCause}
use Rattle.nm_certify.specs.declared.fault.CertifyCause.TheVariants.{Known, NotCertified}
use Rattle.nm_certify.specs.declared.fault.CertifyCause.TheVariants as cause
use Rattle.nm_certify.specs.declared.part.Job.{Job}
use Rattle.nm_certify.specs.declared.part.PartEnd.{PartEnd}
use Rattle.nm_certify.specs.declared.part_files.PartFiles.{PartFiles}

-- what the fault of one file is to all
abbrev pub known_fault : (partition : ℕ) → Fault KnownCause → Fault CertifyCause
known_fault partition Memory = Memory
known_fault partition (Refused c) = Refused (Known partition c)

abbrev pub unread : Fault ReadFailed → Fault CertifyCause
unread Memory = Memory
unread (Refused failed) = Refused cause.Failed

-- a book ran, and did all events before its safe time, if its run says so
abbrev pub HasRanAll : BookValue → Ran → Type 0
HasRanAll b (All n) = HasDoneAll b
HasRanAll b (Limit n) = Unit {0}
HasRanAll b (NoMemory n) = Unit {0}

-- The trace files of partition p, as they were begun, have these texts, each if it is known; its
-- book has these records.
module _ (texts : ℕ → Option (List ℕ)) (t : TopologyValue) (p : ℕ)
    (records : List (Record (List ℕ))) {B : Type 0} (begun : LeastChecked B) where
  -- that of interface n, if it is of the partition and looked at, is theirs; and it comes before
  -- one whose header differs
  abbrev pub IsOwnTrace : ℕ → Type 0
  IsOwnTrace n = receiver_of (net_of t) n ≡ p → IsLesser n begun.differs
      × (is_looked_at begun.files.files.items n ≡ true
      → IfSome (texts n) (λ text. text ≡ octets_after n records))

  -- one that is looked at and is of an interface of a record or of the partition, or whose header
  -- differs, differs from theirs
  abbrev pub IsUnlikeTheirs : Difference → Type 0
  IsUnlikeTheirs d = ((begun.differs ≡ Some d)
      ⊎ ((is_looked_at begun.files.files.items d.iface ≡ true)
      × (HasRecord d.iface records ⊎ (receiver_of (net_of t) d.iface ≡ p))))
      × IfSome (texts d.iface) (λ text. TextDiffers text (octets_after d.iface records) d.octet)

  -- what came of them: one differs or none does, and each of a lesser interface is theirs; or one
  -- could not be read
  abbrev pub EndsAs : Result (Option Difference) (Fault ReadFailed) → Type 0
  EndsAs (Ok found) = IfSome found IsUnlikeTheirs
      × ((n : ℕ) → n < length t.ifaces → IsLesser n found → IsOwnTrace n)
  EndsAs (Err f) = Unit {0}

-- a part was compared: what is lesser than the least of all is lesser than what differs there
abbrev pub IsCompared : (least : Option Difference) → PartEnd → Type 0
IsCompared least end = (found : Option Difference) × (end.traces ≡ Ok found)
    × ((n : ℕ) → IsLesser n least → IsLesser n found)

-- the least difference of all parts, which were all compared, is that of one of them
abbrev pub IsLeastOf : List PartEnd → Option Difference → Type 0
IsLeastOf ends least = AllOf (IsCompared least) ends
    × IfSome least (λ d. (end : PartEnd) × Contains ends end × (end.traces ≡ Ok (Some d)))

-- the first result that is a fault
abbrev pub IsFirstFault : List (Result PartEnd (Fault CertifyCause)) → Fault CertifyCause → Type 0
IsFirstFault results f = (i : ℕ) × (slice_get results i ≡ Some (Err f))
    × ((k : ℕ) → k < i → (end : PartEnd) × (slice_get results k ≡ Some (Ok end)))

-- files by the numbers of their partitions, from one on
abbrev pub jobs_from : {B : Type 0} → ℕ → List (PartFiles B) → List (Job B)
jobs_from n [] = []
jobs_from n (files ∷ more) = record { partition = n; files = files } ∷ jobs_from (suc n) more

module _ {B : Type 0} (t : TopologyValue) (left : B → Option (List ℕ)) where
  -- what came of a partition
  pub record IsEnd (job : Job B) (end : PartEnd) : Type 0 where
    pub book : IsBookOf t job.partition job.files.replica (left job.files.known) end.book
    pub traces : (texts : ℕ → Option (List ℕ))
        → AreBegun texts left job.files.traces
        → EndsAs texts t job.partition (state_of end.book).records job.files.traces end.traces

  -- why it has no book
  abbrev pub RefusesPart : Job B → Fault CertifyCause → Type 0
  RefusesPart job Memory = Unit {0}
  RefusesPart job (Refused cause.Failed) = ⊥
  RefusesPart job (Refused (NotCertified f)) = ⊥
  RefusesPart job (Refused (cause.Differs iface octet)) = ⊥
  RefusesPart job (Refused (Known p c)) = (p ≡ job.partition)
      × ExplainsText (fresh_book t job.partition job.files.replica) (left job.files.known)
      (Refused c)

  -- or the first of several that has none
  abbrev pub RefusesOne : List (Job B) → Fault CertifyCause → Type 0
  RefusesOne jobs Memory = Unit {0}
  RefusesOne jobs (Refused c) = (i : ℕ) × (job : Job B) × (slice_get jobs i ≡ Some job)
      × RefusesPart job (Refused c)
      × ((k : ℕ) (earlier : Job B) → k < i → slice_get jobs k ≡ Some earlier
      → (end : PartEnd) × IsEnd earlier end)
