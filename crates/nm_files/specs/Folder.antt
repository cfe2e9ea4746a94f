-- A folder of trace files: which interfaces have one there, and what is made of them.
use Rattle.std.specs.Prelude.{◌≡◌, ◌⊎◌, Bool, true, false, ℕ, if◌then◌else◌, List, [], ◌∷◌, ◌++◌, Option, Some, None}
use Rattle.std.specs.List.{enumerate_from, flat_map}
use Rattle.nm_base.specs.Sink.{SinkSeen}
use Rattle.nm_base.specs.declared.fault.Fault.{Fault}
use Rattle.nm_base.specs.declared.fault.Fault.TheVariants.{Memory, Refused}
use Rattle.nm_pcap.specs.Format.{file_header}
use Rattle.nm_pcap.specs.Writer.{Writer}
use Rattle.nm_topology.specs.PartValues.{IfaceValue}
use Rattle.nm_files.specs.Files.{HoldsFile}
use Rattle.nm_files.specs.Names.{file_name}
use Rattle.nm_files.specs.Outputs.{Files, IsWhole}
use Rattle.nm_files.specs.declared.outputs.OutputFault.{OutputFault}
use Rattle.nm_files.specs.declared.outputs.OutputFault.TheVariants.{Failed, Memory as NoMemory}
use Rattle.nm_files.specs.declared.trace_files.FileFault.{FileFault}

-- the files of a folder with this name: one of each interface that is chosen, by its number and what
-- it is, with its octets; in the order of the topology's text
abbrev pub chosen_file : (ℕ → IfaceValue → Bool) → (folder : List ℕ) → (ℕ → List ℕ)
    → ℕ × IfaceValue → Files
chosen_file chooses folder octets i =
    if chooses i.0 i.1 then (file_name folder i.1, octets i.0) ∷ [] else []

abbrev pub chosen_files : (ℕ → IfaceValue → Bool) → (folder : List ℕ) → (ℕ → List ℕ)
    → List IfaceValue → Files
chosen_files chooses folder octets ifaces =
    flat_map (chosen_file chooses folder octets) (enumerate_from 0 ifaces)

-- behind the others comes the file of an interface, or none, which has its header alone
abbrev pub HasOpened : {S : Type 0} → (S → SinkSeen) → Option Files → Bool
    → (old new : List (Option (Writer S))) → Type 0
HasOpened {S} seen made chosen old new =
    (file : Option (Writer S)) × (new ≡ old ++ file ∷ []) × HoldsFile seen made chosen file_header file

-- if an interface is chosen, its file was closed and is this one; else none was
abbrev pub IsClosedAs : Option Files → Bool → List ℕ × List ℕ → Option (Option (List ℕ × List ℕ))
    → Type 0
IsClosedAs made false file closed = closed ≡ None
IsClosedAs made true file None = ⊥
IsClosedAs made true file (Some closed) = IsWhole made closed file

-- what the fault of an output is for trace files, one of which failed so
abbrev pub files_fault : OutputFault → FileFault → Fault FileFault
files_fault Failed file = Refused file
files_fault NoMemory file = Memory

-- the file of interface n failed; or memory was refused
abbrev pub IsOfIface : (n : ℕ) → Fault FileFault → Type 0
IsOfIface n Memory = Unit {0}
IsOfIface n (Refused fault) = fault.iface ≡ n

-- the file of interface n failed when it had as many octets as were counted; or memory was refused
abbrev pub IsOwnFault : {S : Type 0} → (n : ℕ) → Option (Writer S) → Fault FileFault → Type 0
IsOwnFault n file Memory = Unit {0}
IsOwnFault n None (Refused fault) = ⊥
IsOwnFault n (Some file) (Refused fault) = fault ≡ record { iface = n; written = file.written }

-- one of these files did, each an interface and how many octets its file has
abbrev pub IsOneOf : List (ℕ × ℕ) → Fault FileFault → Type 0
IsOneOf files Memory = Unit {0}
IsOneOf [] (Refused fault) = ⊥
IsOneOf (file ∷ files) (Refused fault) =
    (fault ≡ record { iface = file.0; written = file.1 }) ⊎ IsOneOf files (Refused fault)
