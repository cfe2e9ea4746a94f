-- The word `verify`: whether existing trace files have the traces of their interfaces.
use Rattle.std.specs.Prelude.{◌≡◌, ◌⊎◌, ℕ, ◌+◌, ◌<◌, true, if◌then◌else◌, IfSome, List, [], ◌++◌, All, codes, slice_get, take, Option, Some, None, Ok}
use Rattle.std.specs.Io.{StartsWith}
use Rattle.std.specs.List.{enumerate_from, flat_map}
use Rattle.arrayvec.specs.ArrayString.{ArrayString}
use Rattle.nm_base.specs.declared.fault.Fault.{Fault}
use Rattle.nm_base.specs.declared.fault.Fault.TheVariants.{Refused, Memory as NoMemory}
use Rattle.nm_base.specs.declared.record.Record.{Record}
use Rattle.nm_pcap.specs.declared.form.Form.TheVariants.{Octets}
use Rattle.nm_pcap.specs.Format.{file_header, record_octets}
use Rattle.nm_topology.specs.PartValues.{IfaceValue}
use Rattle.nm_topology.specs.Topology.{topology_of}
use Rattle.nm_topology.specs.TopologyValue.{TopologyValue}
use Rattle.nm_sim.specs.Totals.{totals_of}
use Rattle.nm_sim.specs.Trace.{IsTraceBefore}
use Rattle.nm_command.specs.declared.status.Status.{Status}
use Rattle.nm_command.specs.declared.status.Status.TheVariants.{Differs, Done, File, Memory}
use Rattle.nm_files.specs.Checked.{DiffersIn, GoesOn, TextDiffers}
use Rattle.nm_files.specs.declared.checked_file.CheckCause.{CheckCause}
use Rattle.nm_files.specs.declared.checked_file.CheckCause.TheVariants.{Failed}
use Rattle.nm_files.specs.declared.checked_file.CheckCause.TheVariants as cause
use Rattle.nm_files.specs.Names.{file_name}
use Rattle.nm_files.specs.TraceFile.{octets_after, trace_file}
use Rattle.nm_offline.specs.All.{AllAsked, HasNoIfaces, is_asked_for}
use Rattle.nm_offline.specs.Input.{InputsSeen, IsInput}
use Rattle.nm_offline.specs.Lines.{iface_line}
use Rattle.nm_offline.specs.Output.{EndsWord, Exchange, FailsOfInput, SaysOfInput}
use Rattle.nm_offline.specs.Traces.{iface_named}

-- the text of an interface's trace file in a folder, if it is known
abbrev pub text_of_file : (text : List ℕ → Option (List ℕ)) → (folder : List ℕ) → Option IfaceValue
    → Option (List ℕ)
text_of_file text folder None = None
text_of_file text folder (Some iface) = text (file_name folder iface)

abbrev pub texts_of : InputsSeen → (folder : List ℕ) → TopologyValue → ℕ → Option (List ℕ)
texts_of inputs folder t n = text_of_file inputs.text folder (slice_get t.ifaces n)

-- the lines of the interfaces that are asked for: the records that each has, and the octets of their
-- trace file
abbrev pub wanted_line : List (List ℕ) → List (Record (List ℕ)) → ℕ × IfaceValue → List ℕ
wanted_line names records i =
    if is_asked_for names i.1 then iface_line i.1 (totals_of i.0 records) else []

abbrev pub wanted_lines : List (List ℕ) → List (Record (List ℕ)) → TopologyValue → List ℕ
wanted_lines names records t = flat_map (wanted_line names records) (enumerate_from 0 t.ifaces)

-- Of a network, and of interfaces of these names, with these texts of their files, if they are
-- known.
module _ (t : TopologyValue) (names : List (List ℕ)) (texts : ℕ → Option (List ℕ)) where
  -- this is true of the text of each file that is asked for
  abbrev pub OfEach : (ℕ → List ℕ → Type 0) → Type 0
  OfEach P = (n : ℕ) (iface : IfaceValue) → slice_get t.ifaces n ≡ Some iface
      → is_asked_for names iface ≡ true → IfSome (texts n) (P n)

  -- of those before interface `own` in the topology's text
  abbrev pub OfEarlier : (own : ℕ) → (ℕ → List ℕ → Type 0) → Type 0
  OfEarlier own P = (n : ℕ) (iface : IfaceValue) → n < own → slice_get t.ifaces n ≡ Some iface
      → is_asked_for names iface ≡ true → IfSome (texts n) (P n)

  -- interface n is there and its file is asked for
  abbrev pub IsWanted : ℕ → Type 0
  IsWanted n = (iface : IfaceValue) × (slice_get t.ifaces n ≡ Some iface)
      × (is_asked_for names iface ≡ true)

  -- the file of interface n differs from these octets at this one, which stops at 2 ^ 64 - 1, and at
  -- none before it
  abbrev pub FileDiffers : (n : ℕ) → (octets : List ℕ) → (octet : ℕ) → Type 0
  FileDiffers n octets octet =
      IfSome (texts n) (λ text. TextDiffers text octets octet)

  -- The file of interface `own` is the first that differs, at this octet: in its header, and the
  -- headers of those before it are right.
  abbrev pub DiffersInHeader : (own octet : ℕ) → Type 0
  DiffersInHeader own octet = OfEarlier own (λ n text. StartsWith text file_header)
      × DiffersIn texts own [] file_header octet

  -- The trace of the whole run.
  module _ (records : List (Record (List ℕ))) where
    -- in one of these records, and all files have those before it
    abbrev pub DiffersInRecord : (own octet : ℕ) → Type 0
    DiffersInRecord own octet = (k : ℕ) × (r : Record (List ℕ)) × (slice_get records k ≡ Some r)
        × (r.iface ≡ own) × OfEach (λ n text. StartsWith text (octets_after n (take k records)))
        × DiffersIn texts own (octets_after own (take k records)) (record_octets r) octet

    -- it goes on behind them all, all files have them, and those before it end there
    abbrev pub DiffersBehind : (own octet : ℕ) → Type 0
    DiffersBehind own octet = OfEach (λ n text. StartsWith text (octets_after n records))
        × OfEarlier own (λ n text. text ≡ trace_file Octets n records)
        × GoesOn texts own (trace_file Octets own records) octet

    abbrev pub DiffersFirst : (own octet : ℕ) → Type 0
    DiffersFirst own octet = DiffersInHeader own octet ⊎ DiffersInRecord own octet
        ⊎ DiffersBehind own octet

-- each name is that of an interface
abbrev pub AreNames : List (List ℕ) → TopologyValue → Type 0
AreNames names t = All (λ name. iface_named t.ifaces (Some name) ≡ None → ⊥) names

-- Each file that is asked for, of the topology of this text, is the trace file of its interface over
-- the whole run, octet for octet.
pub record AreVerified (inputs : InputsSeen) (asked : AllAsked) (text octets : List ℕ) : Type 0 where
  pub network : TopologyValue
  pub read : topology_of text ≡ Ok network
  pub named : AreNames asked.names network
  pub records : List (Record (List ℕ))
  pub trace : IsTraceBefore network network.stop records
  pub whole : OfEach network asked.names (texts_of inputs asked.folder network)
      (λ n text. text ≡ trace_file Octets n records)
  pub said : octets ≡ codes "verified\n" ++ wanted_lines asked.names records network

-- One of them differs from the trace file of its interface, which has this name, and no other does
-- before it.
pub record OneDiffers (inputs : InputsSeen) (asked : AllAsked) (text name : List ℕ) (octet : ℕ)
    : Type 0 where
  pub network : TopologyValue
  pub read : topology_of text ≡ Ok network
  pub named : AreNames asked.names network
  pub records : List (Record (List ℕ))
  pub trace : IsTraceBefore network network.stop records
  pub own : ℕ
  pub iface : IfaceValue
  pub there : slice_get network.ifaces own ≡ Some iface
  pub wanted : is_asked_for asked.names iface ≡ true
  pub called : name ≡ iface.name
  pub differs : FileDiffers network asked.names (texts_of inputs asked.folder network) own
      (trace_file Octets own records) octet
  pub first : DiffersFirst network asked.names (texts_of inputs asked.folder network) records own octet

-- it is printed once all are verified
abbrev pub SaysVerified : InputsSeen → AllAsked → List ℕ → Status → List ℕ → Type 0
SaysVerified inputs asked text status octets =
    (status ≡ Done) × AreVerified inputs asked text octets

-- why a file that is asked for is not verified: it differs, or one could not be opened or read, or
-- memory was refused
abbrev pub IsNotVerified : (before after : InputsSeen) → AllAsked → List ℕ → Status → Type 0
IsNotVerified before after asked text (Differs name octet) =
    OneDiffers before asked text name.bytes octet
IsNotVerified before after asked text status =
    ((status ≡ File) × (after.failures ≡ before.failures + 1)) ⊎ (status ≡ Memory)

-- what the fault of files is for the word: the octet at which one differs, and the name of its
-- interface; or a failure more is counted; or memory was refused
abbrev pub IsStatusOf : (before after : InputsSeen) → List IfaceValue → Fault CheckCause → Status
    → Type 0
IsStatusOf before after ifaces NoMemory status = status ≡ Memory
IsStatusOf before after ifaces (Refused Failed) status =
    (status ≡ File) × (after.failures ≡ before.failures + 1)
IsStatusOf before after ifaces (Refused (cause.Differs own octet)) status =
    (status ≡ Memory)
    ⊎ ((name : ArrayString) × (status ≡ Differs name octet)
    × ((iface : IfaceValue) → slice_get ifaces own ≡ Some iface → name.bytes ≡ iface.name))

-- why nothing is verified: there is no network, or one of the names is that of no interface; or a
-- file is not verified
abbrev pub FailsVerify : (before after : InputsSeen) → AllAsked → Status → Type 0
FailsVerify before after asked status =
    FailsOfInput before after asked.topology (HasNoIfaces asked.names) status
    ⊎ ((text : List ℕ) × IsInput (before.text asked.topology) text
    × IsNotVerified before after asked text status)

-- The meaning of each status.
module _ {S : Type 0} (before after : Exchange S) where
  abbrev pub EndsVerify : AllAsked → Status → Type 0
  EndsVerify asked status =
      EndsWord before after
      (SaysOfInput before.inputs asked.topology (SaysVerified before.inputs asked))
      (FailsVerify before.inputs after.inputs asked) status
