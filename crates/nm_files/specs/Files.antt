-- Trace files that are written side by side. File n is that of interface n.
use Rattle.std.specs.Prelude.{◌≡◌, ◌≢◌, ◌⊎◌, ℕ, ◌+◌, ◌<◌, Bool, true, false, All, List, [], ◌∷◌, ◌++◌, get_or, length, slice_get, slice_index_or, take, Option, Some, None}
use Rattle.nm_base.specs.Sink.{HasNotFailed, HasTaken, SinkSeen}
use Rattle.nm_base.specs.Count.{saturated}
use Rattle.nm_base.specs.declared.record.Record.{Record}
use Rattle.nm_pcap.specs.declared.form.Form.TheVariants.{Octets}
use Rattle.nm_pcap.specs.Format.{file_header, record_octets}
use Rattle.nm_pcap.specs.Outcome.{AddedNothing, AddedPart}
use Rattle.nm_pcap.specs.Writer.{Writer}
use Rattle.nm_pcap.specs.Writing.{written}
use Rattle.nm_topology.specs.PartValues.{IfaceValue}
use Rattle.nm_files.specs.Outputs.{Files}
use Rattle.nm_files.specs.TraceFile.{written_at}
use Rattle.nm_files.specs.declared.trace_files.FileFault.{FileFault}

module _ {S : Type 0} (seen : S → SinkSeen) (made : Option Files) where
  -- a file holds these octets, if it is known which files were placed, and as many are counted
  pub record HoldsOctets (octets : List ℕ) (file : Writer S) : Type 0 where
    pub form : file.form ≡ Octets
    pub taken : (first : Files) → made ≡ Some first → (seen file.sink).taken ≡ Some octets
    pub counted : file.written ≡ saturated (length octets)

  -- if an interface is chosen, its file is there and holds these; else there is none
  abbrev pub HoldsFile : (chosen : Bool) → List ℕ → Option (Writer S) → Type 0
  HoldsFile false octets file = file ≡ None
  HoldsFile true octets None = ⊥
  HoldsFile true octets (Some file) = HoldsOctets octets file

  -- so it is with the first interfaces, which are chosen by their numbers and what they are
  pub record HoldsFiles (chooses : ℕ → IfaceValue → Bool) (ifaces : List IfaceValue)
      (octets : ℕ → List ℕ) (files : List (Option (Writer S))) : Type 0 where
    pub each : (n : ℕ) (iface : IfaceValue) → n < length files → slice_get ifaces n ≡ Some iface
        → HoldsFile (chooses n iface) (octets n) (get_or files n None)

  -- a file, if there is one, holds some octets
  abbrev pub IsCounted : Option (Writer S) → Type 0
  IsCounted None = Unit {0}
  IsCounted (Some file) = (octets : List ℕ) × HoldsOctets octets file

  abbrev pub AreCounted : List (Option (Writer S)) → Type 0
  AreCounted files = All IsCounted files

module _ {S : Type 0} (seen : S → SinkSeen) (sink : S) where
  -- the file of this sink, which took the header, as it is, and may be written on
  pub record IsBegun (file : Writer S) : Type 0 where
    pub header : HasTaken (seen sink) (seen file.sink) file_header
    pub form : file.form ≡ Octets
    pub sound : file.failed ≡ false
    pub counted : file.written ≡ saturated (length file_header)

  -- it is behind the others
  pub record HasBegun (old new : List (Option (Writer S))) : Type 0 where
    pub file : Writer S
    pub begun : IsBegun file
    pub last : new ≡ old ++ Some file ∷ []

module _ {S : Type 0} (seen : S → SinkSeen) (records : List (Record (List ℕ))) where
  -- of these records the file took those that are at interface n, and did not fail: it may be
  -- written on if it might before
  pub record Took (n : ℕ) (old new : Writer S) : Type 0 where
    pub whole : HasTaken (seen old.sink) (seen new.sink) (written_at old.form n records)
    pub no_fault : HasNotFailed (seen old.sink) (seen new.sink)
    pub same_form : new.form ≡ old.form
    pub as_sound : new.failed ≡ old.failed
    -- if so many octets were counted before, as many more are as were written, up to 2 ^ 64 - 1
    pub counted : (before : ℕ) → old.written ≡ saturated before
        → new.written ≡ saturated (before + length (written_at old.form n records))

  abbrev pub FileTook : ℕ → Option (Writer S) → Option (Writer S) → Type 0
  FileTook n None None = Unit {0}
  FileTook n None (Some new) = ⊥
  FileTook n (Some old) None = ⊥
  FileTook n (Some old) (Some new) = Took n old new

  pub record FilesTook (old new : List (Option (Writer S))) : Type 0 where
    pub count : length new ≡ length old
    pub each : (n : ℕ) (o p : Option (Writer S)) → slice_get old n ≡ Some o
        → slice_get new n ≡ Some p → FileTook n o p

module _ {S : Type 0} (seen : S → SinkSeen) where
  -- The record was not written: the sink of the file failed after it took a part of the record,
  -- from the front; or it had failed before. It took so many octets of the file in all.
  abbrev pub FileFailed : (r : Record (List ℕ)) → (written : ℕ) → Option (Writer S)
      → Option (Writer S) → Type 0
  FileFailed r n None new = ⊥
  FileFailed r n (Some old) None = ⊥
  FileFailed r n (Some old) (Some new) =
      AddedPart seen old new (written old.form (record_octets r)) n
      ⊎ AddedNothing seen old new × (n ≡ new.written)

  -- that of the record's interface did, and the others are as they were
  pub record OwnFileFailed (r : Record (List ℕ)) (old new : List (Option (Writer S)))
      (fault : FileFault) : Type 0 where
    pub iface : fault.iface ≡ r.iface
    pub file : FileFailed r fault.written (slice_index_or old r.iface None)
        (slice_index_or new r.iface None)
    pub others : (n : ℕ) → n ≢ r.iface → slice_index_or new n None ≡ slice_index_or old n None

  -- it did at one of the records, after those before it were taken
  pub record FailedAt (records : List (Record (List ℕ))) (old new : List (Option (Writer S)))
      (fault : FileFault) : Type 0 where
    pub number : ℕ
    pub failed_at : Record (List ℕ)
    pub place : slice_get records number ≡ Some failed_at
    pub before : List (Option (Writer S))
    pub took : FilesTook seen (take number records) old before
    pub failed : OwnFileFailed failed_at before new fault
