-- Trace files that are there, read beside what they are to have. File n is that of interface n.
use Rattle.std.specs.Prelude.{◌≡◌, ◌≢◌, ◌⊎◌, ℕ, ◌+◌, ◌<◌, Bool, false, true, IfSome, IsSomeAnd, List, ◌++◌, get_or, length, map, slice_get, take, Option, None, Some, is_some}
use Rattle.std.specs.Io.{StartsWith}
use Rattle.std.specs.declared.io.ErrorKind.{ErrorKind}
use Rattle.std.specs.declared.io.ErrorKind.TheVariants.{OutOfMemory}
use Rattle.nm_base.specs.Count.{saturated}
use Rattle.nm_base.specs.declared.fault.Fault.{Fault}
use Rattle.nm_base.specs.declared.fault.Fault.TheVariants.{Memory, Refused}
use Rattle.nm_base.specs.declared.record.Record.{Record}
use Rattle.nm_pcap.specs.Format.{record_octets}
use Rattle.nm_files.specs.TraceFile.{octets_after, records_at}
use Rattle.nm_files.specs.declared.checked_file.CheckCause.{CheckCause}
use Rattle.nm_files.specs.declared.checked_file.CheckCause.TheVariants.{Differs, Failed}
use Rattle.nm_files.specs.declared.checked_file.CheckedFile.{CheckedFile}

-- what an error of the system of this kind is: memory was refused, or else this
abbrev pub IsFaultOfKind : {C : Type 0} → ErrorKind → (cause : C) → Fault C → Type 0
IsFaultOfKind kind cause fault = ((kind ≡ OutOfMemory) × (fault ≡ Memory))
    ⊎ ((kind ≡ OutOfMemory → ⊥) × (fault ≡ Refused cause))

-- A text differs from these octets at octet n, counted from 0, and at none before it: there it has
-- another one, or one of both ends.
abbrev pub DiffersAt : (text octets : List ℕ) → ℕ → Type 0
DiffersAt text octets n = (take n text ≡ take n octets) × (slice_get text n ≢ slice_get octets n)

-- A text differs from these octets at this octet, which stops at 2 ^ 64 - 1, and at none before it.
abbrev pub TextDiffers : (text octets : List ℕ) → (octet : ℕ) → Type 0
TextDiffers text octets octet = (k : ℕ) × (octet ≡ saturated k) × DiffersAt text octets k

-- the interface whose file differs, and at which octet, if one does
abbrev pub difference : Fault CheckCause → Option (ℕ × ℕ)
difference Memory = None
difference (Refused Failed) = None
difference (Refused (Differs iface octet)) = Some (iface, octet)

-- which interfaces have a file that is looked at
abbrev pub looked_at : {B : Type 0} → List (Option (CheckedFile B)) → List Bool
looked_at files = map (λ file. is_some file) files

abbrev pub is_looked_at : {B : Type 0} → List (Option (CheckedFile B)) → ℕ → Bool
is_looked_at files n = get_or (looked_at files) n false

-- The texts of the files, each if it is known.
module _ (texts : ℕ → Option (List ℕ)) where
  -- The file of interface n has these octets at its front, and behind them not the next ones: it
  -- differs there, at this octet, which stops at 2 ^ 64 - 1.
  abbrev pub DiffersIn : (n : ℕ) → (before next : List ℕ) → (octet : ℕ) → Type 0
  DiffersIn n before next octet = IfSome (texts n) (λ text. (k : ℕ) × (k < length next)
      × (octet ≡ saturated (length before + k))
      × DiffersAt text (before ++ next) (length before + k))

  -- it has these octets, and goes on behind them
  abbrev pub GoesOn : (n : ℕ) → (octets : List ℕ) → (octet : ℕ) → Type 0
  GoesOn n octets octet = IfSome (texts n) (λ text. (octet ≡ saturated (length octets))
      × StartsWith text octets × DiffersAt text octets (length octets))

  -- which is known, or why it is not
  abbrev pub IsUnlike : (n : ℕ) → (before next : List ℕ) → Fault CheckCause → Type 0
  IsUnlike n before next Memory = Unit {0}
  IsUnlike n before next (Refused Failed) = Unit {0}
  IsUnlike n before next (Refused (Differs iface octet)) =
      (iface ≡ n) × DiffersIn n before next octet

  abbrev pub IsLonger : (n : ℕ) → (octets : List ℕ) → Fault CheckCause → Type 0
  IsLonger n octets Memory = Unit {0}
  IsLonger n octets (Refused Failed) = Unit {0}
  IsLonger n octets (Refused (Differs iface octet)) = (iface ≡ n) × GoesOn n octets octet

  -- The octets that are left of a reader, if it is known.
  module _ {B : Type 0} (left : B → Option (List ℕ)) where
    -- these octets of the file of interface n were read, from its begin
    pub record HasRead (n : ℕ) (octets : List ℕ) (file : CheckedFile B) : Type 0 where
      pub own : file.iface ≡ n
      pub same : file.same ≡ saturated (length octets)
      pub rest : IfSome (texts n) (λ text. IsSomeAnd (left file.reader) (λ rest. text ≡ octets ++ rest))

    -- each file has these records of its interface, and was read up to them
    pub record HaveRead (records : List (Record (List ℕ))) (files : List (Option (CheckedFile B)))
        : Type 0 where
      pub each : (n : ℕ) (file : CheckedFile B) → slice_get files n ≡ Some (Some file)
          → HasRead n (octets_after n records) file
          × (file.records ≡ saturated (length (records_at n records)))

    -- one of these records is not what the file of its interface has; all files have those before
    pub record DiffersInOne (before next : List (Record (List ℕ)))
        (old : List (Option (CheckedFile B))) (fault : Fault CheckCause) : Type 0 where
      pub number : ℕ
      pub missed : Record (List ℕ)
      pub place : slice_get next number ≡ Some missed
      pub looked : is_looked_at old missed.iface ≡ true
      pub files : List (Option (CheckedFile B))
      pub same : looked_at files ≡ looked_at old
      pub read : HaveRead (before ++ take number next) files
      pub unlike : IsUnlike missed.iface (octets_after missed.iface (before ++ take number next))
          (record_octets missed) fault
