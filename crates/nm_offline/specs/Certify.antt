-- The word `certify`: what replicas left, in folders of several machines or of one.
use Rattle.std.specs.Prelude.{◌≡◌, ◌⊎◌, ℕ, ◌+◌, ◌<◌, ◌≤◌, IfSome, List, ◌++◌, length, map, slice_get, codes, string_bytes, Option, Some, None, Ok, Err}
use Rattle.nm_base.specs.declared.fault.Fault.{Fault}
use Rattle.nm_base.specs.declared.fault.Fault.TheVariants.{Refused, Memory as NoMemory}
use Rattle.nm_base.specs.declared.limits.TheConstants.{MAX_REPLICA}
use Rattle.nm_base.specs.declared.record.Record.{Record}
use Rattle.arrayvec.specs.ArrayString.{ArrayString}
use Rattle.nm_model.specs.Partition.{receiver_of}
use Rattle.nm_pcap.specs.declared.form.Form.TheVariants.{Octets}
use Rattle.nm_topology.specs.PartValues.{IfaceValue}
use Rattle.nm_topology.specs.Topology.{topology_of}
use Rattle.nm_topology.specs.TopologyValue.{TopologyValue}
use Rattle.nm_sim.specs.Network.{net_of}
use Rattle.nm_sim.specs.Totals.{totals_of}
use Rattle.nm_sim.specs.Trace.{IsTraceBefore}
use Rattle.nm_files.specs.Checked.{TextDiffers}
use Rattle.nm_files.specs.TraceFile.{trace_file}
use Rattle.nm_book.specs.Book.{BookValue}
use Rattle.nm_rounds.specs.Certify.{AreCertified, Certifies, cert_fault_number}
use Rattle.nm_rounds.specs.declared.certify.CertFault.{CertFault}
use Rattle.nm_known.specs.Keeping.{known_name}
use Rattle.nm_known.specs.Known.{ExplainsText}
use Rattle.nm_known.specs.declared.known_fault.KnownCause.{KnownCause}
use Rattle.nm_known.specs.declared.known_fault.KnownCause.TheVariants as known
use Rattle.nm_certify.specs.Certify.{IsBookOf, fresh_book}
use Rattle.nm_certify.specs.declared.fault.CertifyCause.{CertifyCause}
use Rattle.nm_certify.specs.declared.fault.CertifyCause.TheVariants as cause
use Rattle.nm_command.specs.declared.arguments.CertifyArguments.{CertifyArguments}
use Rattle.nm_command.specs.declared.status.Status.{Status}
use Rattle.nm_command.specs.declared.status.Status.TheVariants.{Differs, Done, File, Memory, NotCertified}
use Rattle.nm_offline.specs.Input.{InputsSeen, IsInput, IsRefused}
use Rattle.nm_offline.specs.Lines.{iface_lines}
use Rattle.nm_offline.specs.Output.{EndsWord, Exchange, FailsOfInput, SaysOfInput}
use Rattle.nm_offline.specs.Verify.{text_of_file}

-- what `certify` gets: the input with the topology, and the folders
pub record CertifyAsked : Type 0 where
  pub topology : List ℕ
  pub folders : List (List ℕ)

abbrev pub certify_asked : CertifyArguments → CertifyAsked
certify_asked words = record {
  topology = words.topology.now;
  folders = map (λ folder. string_bytes folder) words.folders.now;
}

-- The place of a partition's files: in this folder, with the file of what this replica knew.
pub record FilePlace : Type 0 where
  pub folder : List ℕ
  pub replica : ℕ

-- none of the first n folders has a file of what is known of partition p
abbrev pub HaveNoFile : InputsSeen → (folders : List (List ℕ)) → (n p : ℕ) → Type 0
HaveNoFile inputs folders n p = (m : ℕ) (folder : List ℕ) (replica : ℕ) → m < n
    → slice_get folders m ≡ Some folder → replica ≤ MAX_REPLICA
    → inputs.text (known_name folder p replica) ≡ None

-- no folder has one
abbrev pub HasNoFile : InputsSeen → (folders : List (List ℕ)) → (p : ℕ) → Type 0
HasNoFile inputs folders p = HaveNoFile inputs folders (length folders) p

-- The first place that has such a file: no folder before this one has one, and here no lesser
-- replica has.
pub record IsFilePlace (inputs : InputsSeen) (folders : List (List ℕ)) (p : ℕ)
    (place : FilePlace) : Type 0 where
  pub number : ℕ
  pub there : slice_get folders number ≡ Some place.folder
  pub within : place.replica ≤ MAX_REPLICA
  pub before : HaveNoFile inputs folders number p
  pub beside : (replica : ℕ) → replica < place.replica
      → inputs.text (known_name place.folder p replica) ≡ None

-- the first of each partition
pub record ArePlaces (inputs : InputsSeen) (folders : List (List ℕ)) (t : TopologyValue)
    (places : List FilePlace) : Type 0 where
  pub count : length places ≡ t.partitions
  pub each : (p : ℕ) (place : FilePlace) → slice_get places p ≡ Some place
      → IsFilePlace inputs folders p place

-- the text of an interface's trace file in the folder of its partition, if it is known
abbrev pub trace_text : (text : List ℕ → Option (List ℕ)) → Option FilePlace → Option IfaceValue
    → Option (List ℕ)
trace_text text None iface = None
trace_text text (Some place) iface = text_of_file text place.folder iface

-- Of a network, and of places of its partitions' files.
module _ (inputs : InputsSeen) (t : TopologyValue) (places : List FilePlace) where
  -- the text of partition p's file of what is known, and of interface n's trace file
  abbrev pub known_text : ℕ → FilePlace → Option (List ℕ)
  known_text p place = inputs.text (known_name place.folder p place.replica)

  abbrev pub trace_texts : ℕ → Option (List ℕ)
  trace_texts n = trace_text inputs.text (slice_get places (receiver_of (net_of t) n))
      (slice_get t.ifaces n)

  -- a book of each partition, which knows what its file of what is known says, if that is known,
  -- and did all that it may do by that
  pub record AreTheirBooks (books : List BookValue) : Type 0 where
    pub count : length books ≡ length places
    pub each : (p : ℕ) (place : FilePlace) (b : BookValue) → slice_get places p ≡ Some place
        → slice_get books p ≡ Some b → IsBookOf t p place.replica (known_text p place) b

  -- the trace file of each interface, in the folder of its partition, is that of these records
  abbrev pub AreTheirTraces : List (Record (List ℕ)) → Type 0
  AreTheirTraces records = (n : ℕ) (iface : IfaceValue) → slice_get t.ifaces n ≡ Some iface
      → IfSome (trace_texts n) (λ text. text ≡ trace_file Octets n records)

-- Each partition has a file of what is known in a folder. The books by the first of each are
-- certified: each interface has what it has in the trace of the one event list, over the whole run.
-- And each trace file beside them is that of its interface, octet for octet.
pub record AreFilesCertified (inputs : InputsSeen) (asked : CertifyAsked) (text octets : List ℕ)
    : Type 0 where
  pub network : TopologyValue
  pub read : topology_of text ≡ Ok network
  pub places : List FilePlace
  pub placed : ArePlaces inputs asked.folders network places
  pub books : List BookValue
  pub theirs : AreTheirBooks inputs network places books
  pub certified : AreCertified network books
  pub records : List (Record (List ℕ))
  pub trace : IsTraceBefore network network.stop records
  pub whole : AreTheirTraces inputs network places records
  pub said : octets ≡ codes "certified\n" ++ iface_lines (λ i. totals_of i records) network

-- the number of the certificate's fault for a refused file of what is known: there is no book of
-- its partition, or one of another topology
abbrev pub refused_number : KnownCause → Option ℕ
refused_number known.Topology = Some 6
refused_number known.Form = Some 4
refused_number known.Failed = None

-- a file of what is known is refused
pub record IsFileRefused (inputs : InputsSeen) (folders : List (List ℕ)) (t : TopologyValue)
    (n : ℕ) : Type 0 where
  pub places : List FilePlace
  pub placed : ArePlaces inputs folders t places
  pub partition : ℕ
  pub place : FilePlace
  pub there : slice_get places partition ≡ Some place
  pub cause : KnownCause
  pub number : refused_number cause ≡ Some n
  pub why : ExplainsText (fresh_book t partition place.replica)
      (known_text inputs t places partition place) (Refused cause)

-- this is the first fault that the certificate finds in the books by the files
pub record AreBooksAtFault (inputs : InputsSeen) (folders : List (List ℕ)) (t : TopologyValue)
    (n : ℕ) : Type 0 where
  pub places : List FilePlace
  pub placed : ArePlaces inputs folders t places
  pub books : List BookValue
  pub theirs : AreTheirBooks inputs t places books
  pub fault : CertFault
  pub shows : Certifies t books (Err fault)
  pub number : n ≡ cert_fault_number fault

-- why nothing is certified, by number: a partition has no file of what is known, and so no book; or
-- such a file is refused; or the books by them are not certified
abbrev pub IsNotCertified : InputsSeen → (folders : List (List ℕ)) → TopologyValue → ℕ → Type 0
IsNotCertified inputs folders t n =
    ((n ≡ 4) × (p : ℕ) × (p < t.partitions) × HasNoFile inputs folders p)
    ⊎ IsFileRefused inputs folders t n ⊎ AreBooksAtFault inputs folders t n

-- The books by these files are certified. The trace file of interface `own`, in the folder of its
-- partition, differs at this octet from that of the one event list, and at none before it; and the
-- trace file of each lesser interface is that of the one event list.
pub record IsOneUnlike (inputs : InputsSeen) (folders : List (List ℕ)) (t : TopologyValue)
    (own octet : ℕ) : Type 0 where
  pub there : own < length t.ifaces
  pub places : List FilePlace
  pub placed : ArePlaces inputs folders t places
  pub books : List BookValue
  pub theirs : AreTheirBooks inputs t places books
  pub certified : AreCertified t books
  pub records : List (Record (List ℕ))
  pub trace : IsTraceBefore t t.stop records
  pub differs : IfSome (trace_texts inputs t places own)
      (λ text. TextDiffers text (trace_file Octets own records) octet)
  pub lesser : (n : ℕ) → n < own → IfSome (trace_texts inputs t places n)
      (λ text. text ≡ trace_file Octets n records)

-- what is said of files that are not certified
abbrev pub ExplainsFiles : InputsSeen → (folders : List (List ℕ)) → TopologyValue
    → Fault CertifyCause → Type 0
ExplainsFiles inputs folders t NoMemory = Unit {0}
ExplainsFiles inputs folders t (Refused cause.Failed) = Unit {0}
ExplainsFiles inputs folders t (Refused (cause.Known p known.Failed)) = Unit {0}
ExplainsFiles inputs folders t (Refused (cause.Known p known.Form)) =
    IsNotCertified inputs folders t 4
ExplainsFiles inputs folders t (Refused (cause.Known p known.Topology)) =
    IsNotCertified inputs folders t 6
ExplainsFiles inputs folders t (Refused (cause.NotCertified fault)) =
    IsNotCertified inputs folders t (cert_fault_number fault)
ExplainsFiles inputs folders t (Refused (cause.Differs own octet)) =
    IsOneUnlike inputs folders t own octet

-- what such a fault is for the word
abbrev pub IsStatusOfFiles : (before after : InputsSeen) → List IfaceValue → Fault CertifyCause
    → Status → Type 0
IsStatusOfFiles before after ifaces NoMemory status = status ≡ Memory
IsStatusOfFiles before after ifaces (Refused cause.Failed) status =
    (status ≡ File) × (after.failures ≡ before.failures + 1)
IsStatusOfFiles before after ifaces (Refused (cause.Known p known.Failed)) status =
    (status ≡ File) × (after.failures ≡ before.failures + 1)
IsStatusOfFiles before after ifaces (Refused (cause.Known p known.Form)) status =
    status ≡ NotCertified 4
IsStatusOfFiles before after ifaces (Refused (cause.Known p known.Topology)) status =
    status ≡ NotCertified 6
IsStatusOfFiles before after ifaces (Refused (cause.NotCertified fault)) status =
    status ≡ NotCertified (cert_fault_number fault)
IsStatusOfFiles before after ifaces (Refused (cause.Differs own octet)) status =
    (status ≡ Memory)
    ⊎ ((name : ArrayString) × (status ≡ Differs name octet)
    × ((iface : IfaceValue) → slice_get ifaces own ≡ Some iface → name.bytes ≡ iface.name))

-- the trace file of the interface of this name is the first in the topology's text that differs
-- from that of the one event list
pub record OneIsUnlike (inputs : InputsSeen) (asked : CertifyAsked) (text name : List ℕ)
    (octet : ℕ) : Type 0 where
  pub network : TopologyValue
  pub read : topology_of text ≡ Ok network
  pub own : ℕ
  pub iface : IfaceValue
  pub there : slice_get network.ifaces own ≡ Some iface
  pub called : name ≡ iface.name
  pub unlike : IsOneUnlike inputs asked.folders network own octet

-- why the files of a topology's text are not certified: the certificate's fault; or a trace file
-- differs; or one could not be opened or read, or memory was refused
abbrev pub AreNotCertified : (before after : InputsSeen) → CertifyAsked → List ℕ → Status → Type 0
AreNotCertified before after asked text (Differs name octet) =
    OneIsUnlike before asked text name.bytes octet
AreNotCertified before after asked text (NotCertified n) =
    (network : TopologyValue) × (topology_of text ≡ Ok network)
    × IsNotCertified before asked.folders network n
AreNotCertified before after asked text status =
    ((status ≡ File) × (after.failures ≡ before.failures + 1)) ⊎ (status ≡ Memory)

-- it is printed once all are certified
abbrev pub SaysFiles : InputsSeen → CertifyAsked → List ℕ → Status → List ℕ → Type 0
SaysFiles inputs asked text status octets =
    (status ≡ Done) × AreFilesCertified inputs asked text octets

-- why nothing is printed: there is no network, or its files are not certified
abbrev pub FailsCertify : (before after : InputsSeen) → CertifyAsked → Status → Type 0
FailsCertify before after asked status =
    FailsOfInput before after asked.topology IsRefused status
    ⊎ ((text : List ℕ) × IsInput (before.text asked.topology) text
    × AreNotCertified before after asked text status)

-- the meaning of each status
module _ {S : Type 0} (before after : Exchange S) where
  abbrev pub EndsCertify : CertifyAsked → Status → Type 0
  EndsCertify asked status =
      EndsWord before after
      (SaysOfInput before.inputs asked.topology (SaysFiles before.inputs asked))
      (FailsCertify before.inputs after.inputs asked) status
