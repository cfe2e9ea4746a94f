-- Existing trace files, read for the least interface whose file differs.
use Rattle.std.specs.Prelude.{◌≡◌, ◌⊎◌, ℕ, ◌<◌, ◌≤◌, true, Contains, IfSome, List, [], length, take, Option, Some, None, Result, Ok, Err}
use Rattle.nm_base.specs.declared.fault.Fault.{Fault}
use Rattle.nm_base.specs.declared.fault.Fault.TheVariants.{Memory, Refused}
use Rattle.nm_base.specs.declared.record.Record.{Record}
use Rattle.nm_pcap.specs.Format.{file_header}
use Rattle.nm_files.specs.Checked.{DiffersIn, GoesOn, HaveRead, is_looked_at, looked_at}
use Rattle.nm_files.specs.TraceFile.{octets_after}
use Rattle.nm_files.specs.declared.checked_file.CheckCause.{CheckCause}
use Rattle.nm_files.specs.declared.checked_file.CheckCause.TheVariants.{Differs, Failed}
use Rattle.nm_files.specs.declared.checked_file.CheckedFile.{CheckedFile}
use Rattle.nm_files.specs.declared.checked_file.ReadFailed.{ReadFailed}
use Rattle.nm_files.specs.declared.least_checked.Difference.{Difference}
use Rattle.nm_files.specs.declared.least_checked.LeastChecked.{LeastChecked}

-- the file that differs, or why that is not known
abbrev pub found_difference : Fault CheckCause → Result Difference (Fault ReadFailed)
found_difference Memory = Err Memory
found_difference (Refused Failed) = Err (Refused (record {}))
found_difference (Refused (Differs iface octet)) = Ok (record { iface = iface; octet = octet })

-- interface n is lesser than the one whose file differs, if one does
abbrev pub IsLesser : ℕ → Option Difference → Type 0
IsLesser n differs = IfSome differs (λ d. n < d.iface)

-- one of these records is one of this interface
abbrev pub HasRecord : ℕ → List (Record (List ℕ)) → Type 0
HasRecord iface records = (r : Record (List ℕ)) × Contains records r × (r.iface ≡ iface)

-- Of files as they were begun.
module _ {B : Type 0} (begun : LeastChecked B) where
  -- so many are open still, and this is the least that differs: none, and all are; or one for which
  -- this holds, and those of lesser interfaces are
  abbrev pub AreOpenBelow : (Difference → Type 0) → List (Option (CheckedFile B))
      → Option Difference → Type 0
  AreOpenBelow P files None =
      (begun.differs ≡ None) × (looked_at files ≡ looked_at begun.files.files.items)
  AreOpenBelow P files (Some d) =
      P d × (looked_at files ≡ take d.iface (looked_at begun.files.files.items))

  -- it differed in its header, or it was open and has one of these records
  abbrev pub IsOfHeaderOr : List (Record (List ℕ)) → Difference → Type 0
  IsOfHeaderOr records d = (begun.differs ≡ Some d)
      ⊎ ((is_looked_at begun.files.files.items d.iface ≡ true) × HasRecord d.iface records)

-- The texts of the files, each if it is known.
module _ (texts : ℕ → Option (List ℕ)) {B : Type 0} where
  -- it differs within its content after these records
  abbrev pub DiffersWithin : LeastChecked B → List (Record (List ℕ)) → Difference → Type 0
  DiffersWithin begun records d = IsOfHeaderOr begun records d
      × DiffersIn texts d.iface [] (octets_after d.iface records) d.octet

-- And the octets that are left of a reader, if it is known.
module _ (texts : ℕ → Option (List ℕ)) {B : Type 0} (left : B → Option (List ℕ)) where
  -- the headers are read of those that are open: of all, or up to the first whose header differs
  pub record AreBegun (traces : LeastChecked B) : Type 0 where
    pub read : HaveRead texts left [] traces.files.files.items
    pub differs : IfSome traces.differs (λ d. (length traces.files.files.items ≤ d.iface)
        × DiffersIn texts d.iface [] file_header d.octet)

  -- those that are open were read over these records, and the least that differs does so within them
  pub record AreReadBelow (begun : LeastChecked B) (records : List (Record (List ℕ)))
      (traces : LeastChecked B) : Type 0 where
    pub read : HaveRead texts left records traces.files.files.items
    pub least : AreOpenBelow begun (DiffersWithin texts begun records) traces.files.files.items
        traces.differs

  -- Nothing more is to come behind these records in the file of interface n. If it is open still,
  -- nothing does; or it goes on, and is the least that differs.
  pub record IsFinished (records : List (Record (List ℕ))) (n : ℕ) (old new : LeastChecked B)
      : Type 0 where
    pub read : HaveRead texts left records new.files.files.items
    pub whole : is_looked_at new.files.files.items n ≡ true
        → IfSome (texts n) (λ text. text ≡ octets_after n records)
    pub least : ((new.differs ≡ old.differs)
        × (looked_at new.files.files.items ≡ looked_at old.files.files.items))
        ⊎ ((octet : ℕ) × (new.differs ≡ Some (record { iface = n; octet = octet }))
        × (looked_at new.files.files.items ≡ take n (looked_at old.files.files.items))
        × (is_looked_at old.files.files.items n ≡ true)
        × GoesOn texts n (octets_after n records) octet)
