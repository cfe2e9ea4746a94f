-- The trace files of a run: one of each interface.
use Rattle.std.specs.Prelude.{◌≡◌, ◌⊎◌, ℕ, zero, suc, ◌==◌, Bool, true, if◌then◌else◌, List, [], ◌∷◌, ◌++◌, length, map, slice_get, Option, Some, is_some}
use Rattle.std.specs.List.{flat_map}
use Rattle.nm_base.specs.Count.{saturated}
use Rattle.nm_base.specs.Sink.{SinkSeen}
use Rattle.nm_model.specs.Partition.{receiver_of}
use Rattle.nm_pcap.specs.Writer.{Writer}
use Rattle.nm_topology.specs.TopologyValue.{TopologyValue}
use Rattle.nm_files.specs.Files.{HoldsFile}
use Rattle.nm_files.specs.Folder.{chosen_files}
use Rattle.nm_files.specs.Outputs.{AreWhole, Files, HasMade, HasMadeSome}
use Rattle.nm_files.specs.declared.closed_files.ClosedFile.{ClosedFile}
use Rattle.nm_sim.specs.Network.{net_of}
use Rattle.nm_book.specs.Book.{BookValue}
use Rattle.nm_rounds.specs.Certify.{AreCertified}
use Rattle.nm_known.specs.Keeping.{known_file}
use Rattle.nm_run.specs.Report.{AreOfRun, IsCertifiedRun}
use Rattle.nm_run.specs.declared.report.IfaceTotals.{IfaceTotals}

-- the first n interfaces have open files, those of this partition, and the others have none
pub record AreOpen {X : Type 0} (t : TopologyValue) (partition n : ℕ) (files : List (Option X))
    : Type 0 where
  pub count : length files ≡ n
  pub each : (i : ℕ) (file : Option X) → slice_get files i ≡ Some file
      → is_some file ≡ (receiver_of (net_of t) i == partition)

-- the first replica of a partition has a file for each of its interfaces, and any other has none
abbrev pub AreOwnFiles : {X : Type 0} → TopologyValue → (partition replica : ℕ)
    → List (Option X) → Type 0
AreOwnFiles t partition zero files = AreOpen t partition (length t.ifaces) files
AreOwnFiles t partition (suc r) files = files ≡ []

-- there is a file, and it holds some octets
abbrev pub HoldsSome : {S : Type 0} → (S → SinkSeen) → Option Files → Option (Writer S) → Type 0
HoldsSome seen made file = (octets : List ℕ) × HoldsFile seen made true octets file

-- each file was written with as many octets as these totals
abbrev pub AreAsMany : {S : Type 0} → List IfaceTotals → List (Option (Writer S)) → Type 0
AreAsMany {S} totals files = (n : ℕ) (file : Writer S) (own : IfaceTotals)
    → slice_get files n ≡ Some (Some file) → slice_get totals n ≡ Some own
    → file.written ≡ own.octets

-- the files of a run: one of each interface, with these octets, in the order of the topology's text
abbrev pub run_files : (folder : List ℕ) → TopologyValue → (ℕ → List ℕ) → Files
run_files folder t octets = chosen_files (λ n iface. true) folder octets t.ifaces

-- each interface has as many octets as these totals, up to 2 ^ 64 - 1
abbrev pub AreSoMany : List IfaceTotals → (ℕ → List ℕ) → Type 0
AreSoMany totals octets = (n : ℕ) (own : IfaceTotals) → slice_get totals n ≡ Some own
    → saturated (length (octets n)) ≡ own.octets

-- such files were closed, if it is known which files were placed
abbrev pub AreClosed : {C : Type 0} → (C → Option (List ℕ × List ℕ)) → Option Files
    → (folder : List ℕ) → TopologyValue → List IfaceTotals → List (ClosedFile C) → Type 0
AreClosed closed made folder t totals all =
    (octets : ℕ → List ℕ) × AreSoMany totals octets
    × AreWhole made (map (λ c. closed c.file) all) (run_files folder t octets)

-- What a run is to leave: in which folder, how many replicas each partition has, and whether files
-- of what the first of each knows are also made.
pub record Leaving : Type 0 where
  pub folder : List ℕ
  pub replicas : ℕ
  pub keeps : Bool

-- the files of what is known: one of each first replica
abbrev pub kept_file : (folder : List ℕ) → BookValue → Files
kept_file folder b = if b.replica == 0 then known_file folder b ∷ [] else []

abbrev pub kept_files : Leaving → List BookValue → Files
kept_files run books = if run.keeps then flat_map (kept_file run.folder) books else []

-- such files were closed, of books that are certified
abbrev pub AreKeptBooks : {C : Type 0} → (C → Option (List ℕ × List ℕ)) → Option Files → Leaving
    → TopologyValue → List C → Type 0
AreKeptBooks closed made run t all =
    (books : List BookValue) × (AreOfRun t run.replicas books × AreCertified t books)
    × AreWhole made (map closed all) (kept_files run books)

-- The files of a certified run: for each interface one with as many octets as these totals, and
-- behind them those of what is known.
pub record AreRunFiles (run : Leaving) (t : TopologyValue) (totals : List IfaceTotals)
    (files : Files) : Type 0 where
  pub octets : ℕ → List ℕ
  pub many : AreSoMany totals octets
  pub books : List BookValue
  pub of_run : AreOfRun t run.replicas books
  pub certified : AreCertified t books
  pub are : files ≡ run_files run.folder t octets ++ kept_files run books

-- behind the files that were placed before came all of these, if it is known which files were
-- placed
abbrev pub HaveFiles : (before after : Option Files) → Leaving → TopologyValue
    → List IfaceTotals → Type 0
HaveFiles before after run t totals =
    (files : Files) × AreRunFiles run t totals files × HasMade before after files

-- or only the first of them
abbrev pub HaveSomeFiles : (before after : Option Files) → Leaving → TopologyValue
    → List IfaceTotals → Type 0
HaveSomeFiles before after run t totals =
    (files : Files) × AreRunFiles run t totals files × HasMadeSome before after files

-- However a run ends, a file got its name only if the run is certified: behind the files that were
-- placed before come the first of those with these totals, if it is known which files were placed.
abbrev pub AreNamed : (before after : Option Files) → Leaving → TopologyValue → Type 0
AreNamed before after run t =
    (after ≡ before)
    ⊎ ((totals : List IfaceTotals) × IsCertifiedRun t totals
    × HaveSomeFiles before after run t totals)
