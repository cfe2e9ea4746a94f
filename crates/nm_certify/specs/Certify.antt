-- What files of several machines show.
use Rattle.std.specs.Prelude.{◌≡◌, ◌⊎◌, ℕ, ◌<◌, true, All, IfSome, List, [], length, replicate, slice_get, Option, Some, Err}
use Rattle.nm_base.specs.declared.fault.Fault.{Fault}
use Rattle.nm_base.specs.declared.fault.Fault.TheVariants.{Memory, Refused}
use Rattle.nm_base.specs.declared.record.Record.{Record}
use Rattle.nm_model.specs.Before.{IsCount}
use Rattle.nm_model.specs.Knowledge.{nothing_known}
use Rattle.nm_model.specs.Partition.{receiver_of}
use Rattle.nm_pcap.specs.declared.form.Form.TheVariants.{Octets}
use Rattle.nm_topology.specs.TopologyValue.{TopologyValue}
use Rattle.nm_files.specs.Checked.{TextDiffers, is_looked_at}
use Rattle.nm_files.specs.Least.{AreBegun, IsLesser}
use Rattle.nm_files.specs.TraceFile.{trace_file}
use Rattle.nm_sim.specs.Network.{net_of}
use Rattle.nm_sim.specs.Trace.{IsTraceBefore}
use Rattle.nm_book.specs.Book.{BookValue, knowledge}
use Rattle.nm_rounds.specs.Certify.{AreCertified, Certifies}
use Rattle.nm_known.specs.Known.{ExplainsText, known_octets}
use Rattle.nm_certify.specs.declared.part_files.PartFiles.{PartFiles}
use Rattle.nm_certify.specs.declared.fault.CertifyCause.{CertifyCause}
use Rattle.nm_certify.specs.declared.fault.CertifyCause.TheVariants.{Known, NotCertified, Differs, Failed}

-- a replica that knows nothing and did nothing yet
abbrev pub fresh_book : TopologyValue → (partition replica : ℕ) → BookValue
fresh_book t partition replica = record {
  topology = t;
  partition = partition;
  replica = replica;
  knows = replicate (length t.receivers) nothing_known;
  events = 0;
  handed = 0;
}

-- it did all events before its safe time
abbrev pub HasDoneAll : BookValue → Type 0
HasDoneAll b = IsCount (net_of b.topology) b.partition (knowledge b) b.events

-- The book of a replica of partition p, which knows what is in this file of what is known, if that
-- is known, and did all that it may do by that.
pub record IsBookOf (t : TopologyValue) (p replica : ℕ) (known : Option (List ℕ)) (b : BookValue)
    : Type 0 where
  pub topology : b.topology ≡ t
  pub partition : b.partition ≡ p
  pub replica_is : b.replica ≡ replica
  pub told : IfSome known (λ text. text ≡ known_octets b)
  pub ran : HasDoneAll b

-- Files by partitions; the octets that are left of a reader are known, or are not.
module _ {B : Type 0} (t : TopologyValue) (left : B → Option (List ℕ)) where
  -- one of each partition, in order
  pub record AreBooksOf (parts : List (PartFiles B)) (books : List BookValue) : Type 0 where
    pub count : length books ≡ length parts
    pub each : (p : ℕ) (files : PartFiles B) (b : BookValue) → slice_get parts p ≡ Some files
        → slice_get books p ≡ Some b → IsBookOf t p files.replica (left files.known) b

  -- the trace files have these texts, each if it is known, and of those that are looked at the
  -- headers are read
  abbrev pub HaveTexts : (ℕ → Option (List ℕ)) → List (PartFiles B) → Type 0
  HaveTexts texts parts = All (λ files. AreBegun texts left files.traces) parts

  -- a header that differs is that of an interface of the partition
  abbrev pub HeadersAreOwn : List (PartFiles B) → Type 0
  HeadersAreOwn parts = (p : ℕ) (files : PartFiles B) → slice_get parts p ≡ Some files
      → IfSome files.traces.differs (λ d. receiver_of (net_of t) d.iface ≡ p)

  -- the trace file of interface n, if it is looked at among those of its partition's part, is that
  -- of these records; and it comes before one whose header differs there
  abbrev pub IsTraceFile : (ℕ → Option (List ℕ)) → List (Record (List ℕ)) → List (PartFiles B)
      → ℕ → Type 0
  IsTraceFile texts records parts n = (files : PartFiles B)
      → slice_get parts (receiver_of (net_of t) n) ≡ Some files
      → IsLesser n files.traces.differs
      × (is_looked_at files.traces.files.files.items n ≡ true
      → IfSome (texts n) (λ text. text ≡ trace_file Octets n records))

  abbrev pub AreTraceFiles : (ℕ → Option (List ℕ)) → List (Record (List ℕ)) → List (PartFiles B)
      → Type 0
  AreTraceFiles texts records parts = (n : ℕ) → n < length t.ifaces
      → IsTraceFile texts records parts n

  -- it is looked at there, or its header differs
  abbrev pub IsAmong : PartFiles B → ℕ → Type 0
  IsAmong files n = (is_looked_at files.traces.files.files.items n ≡ true)
      ⊎ ((octet : ℕ) × (files.traces.differs ≡ Some (record { iface = n; octet = octet })))

  -- a trace file among those of its interface's partition differs from that of these records, at
  -- this octet
  abbrev pub DiffersInItsPart : (ℕ → Option (List ℕ)) → List (Record (List ℕ))
      → List (PartFiles B) → (iface octet : ℕ) → Type 0
  DiffersInItsPart texts records parts iface octet = (files : PartFiles B)
      × (slice_get parts (receiver_of (net_of t) iface) ≡ Some files) × IsAmong files iface
      × IfSome (texts iface) (λ text. TextDiffers text (trace_file Octets iface records) octet)

  -- and each of a lesser interface is that of these records
  abbrev pub DiffersLeast : (ℕ → Option (List ℕ)) → List (Record (List ℕ)) → List (PartFiles B)
      → (iface octet : ℕ) → Type 0
  DiffersLeast texts records parts iface octet = DiffersInItsPart texts records parts iface octet
      × ((n : ℕ) → n < iface → n < length t.ifaces → IsTraceFile texts records parts n)

  -- Why files are not certified: the fault of partition p's file of what is known, while each
  -- partition before it has a book; or what the certificate shows of books that know what is in
  -- these files; or, once they are certified, the trace file of the least interface that differs
  -- from that of the one event list.
  abbrev pub ExplainsFault : List (PartFiles B) → Fault CertifyCause → Type 0
  ExplainsFault parts Memory = Unit {0}
  ExplainsFault parts (Refused Failed) =
      (books : List BookValue) × AreBooksOf parts books × AreCertified t books
  ExplainsFault parts (Refused (Known p cause)) =
      (files : PartFiles B) × (slice_get parts p ≡ Some files)
      × ExplainsText (fresh_book t p files.replica) (left files.known) (Refused cause)
      × ((q : ℕ) (earlier : PartFiles B) → q < p → slice_get parts q ≡ Some earlier
      → (b : BookValue) × IsBookOf t q earlier.replica (left earlier.known) b)
  ExplainsFault parts (Refused (NotCertified f)) =
      (books : List BookValue) × AreBooksOf parts books × Certifies t books (Err f)
  ExplainsFault parts (Refused (Differs iface octet)) =
      (books : List BookValue) × AreBooksOf parts books × AreCertified t books
      × ((texts : ℕ → Option (List ℕ)) (records : List (Record (List ℕ)))
      → IsTraceBefore t t.stop records → HaveTexts texts parts
      → DiffersLeast texts records parts iface octet)
