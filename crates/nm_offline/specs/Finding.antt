-- Files of what replicas knew that were found in folders, and trace files that were opened there.
use Rattle.std.specs.Prelude.{◌≡◌, ◌⊎◌, ℕ, ◌<◌, ◌≤◌, true, None, IfSome, List, length, slice_get, Option, Some}
use Rattle.nm_base.specs.declared.fault.Fault.{Fault}
use Rattle.nm_base.specs.declared.fault.Fault.TheVariants.{Refused, Memory}
use Rattle.nm_base.specs.declared.limits.TheConstants.{MAX_REPLICA}
use Rattle.nm_base.specs.declared.record.Record.{Record}
use Rattle.nm_model.specs.Partition.{receiver_of}
use Rattle.nm_topology.specs.PartValues.{IfaceValue}
use Rattle.nm_topology.specs.TopologyValue.{TopologyValue}
use Rattle.nm_sim.specs.Network.{net_of}
use Rattle.nm_sim.specs.Trace.{IsTraceBefore}
use Rattle.nm_book.specs.Book.{BookValue}
use Rattle.nm_rounds.specs.Certify.{AreCertified}
use Rattle.nm_files.specs.Checked.{is_looked_at}
use Rattle.nm_files.specs.Least.{AreBegun, IsLesser}
use Rattle.nm_files.specs.Names.{file_name}
use Rattle.nm_files.specs.declared.least_checked.LeastChecked.{LeastChecked}
use Rattle.nm_rounds.specs.declared.certify.CertFault.TheVariants.{Missing}
use Rattle.nm_known.specs.Keeping.{known_name}
use Rattle.nm_certify.specs.declared.part_files.PartFiles.{PartFiles}
use Rattle.nm_certify.specs.declared.fault.CertifyCause.{CertifyCause}
use Rattle.nm_certify.specs.declared.fault.CertifyCause.TheVariants as cause
use Rattle.nm_offline.specs.Certify.{ArePlaces, AreTheirBooks, AreTheirTraces, HasNoFile, FilePlace, IsFilePlace}
use Rattle.nm_offline.specs.Input.{InputsSeen}
use Rattle.nm_offline.specs.declared.finding.Found.{Found}

-- where a partition's files were found
abbrev pub found_place : {B : Type 0} → Found B → FilePlace
found_place f = record { folder = f.folder.now; replica = f.replica }

-- The octets that are left of a reader, if they are known.
module _ {B : Type 0} (left : B → Option (List ℕ)) (inputs : InputsSeen) where
  -- the file of this replica of partition p was found in this folder, and has its text
  pub record IsFoundIn (folder : List ℕ) (p replica : ℕ) (f : Found B) : Type 0 where
    pub folder_is : f.folder.now ≡ folder
    pub replica_is : f.replica ≡ replica
    pub text : IfSome (inputs.text (known_name folder p replica)) (λ text. left f.known ≡ Some text)

  -- that of the least replica of which this folder has one
  pub record IsLeastIn (folder : List ℕ) (p : ℕ) (f : Found B) : Type 0 where
    pub found : IsFoundIn folder p f.replica f
    pub within : f.replica ≤ MAX_REPLICA
    pub beside : (replica : ℕ) → replica < f.replica
        → inputs.text (known_name folder p replica) ≡ None

  -- the first of partition p in these folders
  pub record IsFound (folders : List (List ℕ)) (p : ℕ) (f : Found B) : Type 0 where
    pub first : IsFilePlace inputs folders p (found_place f)
    pub text : IfSome (inputs.text (known_name f.folder.now p f.replica))
        (λ text. left f.known ≡ Some text)

  -- that of each of the first n partitions
  pub record AllFound (folders : List (List ℕ)) (n : ℕ) (all : List (Found B)) : Type 0 where
    pub count : length all ≡ n
    pub each : (p : ℕ) (f : Found B) → slice_get all p ≡ Some f → IsFound folders p f

-- the trace files of partition p's interfaces in a folder have these texts
abbrev pub AreOwnTexts : InputsSeen → (folder : List ℕ) → TopologyValue → (p : ℕ)
    → (ℕ → Option (List ℕ)) → Type 0
AreOwnTexts inputs folder t p texts = (n : ℕ) (iface : IfaceValue)
    → slice_get t.ifaces n ≡ Some iface → receiver_of (net_of t) n ≡ p
    → texts n ≡ inputs.text (file_name folder iface)

-- The octets that are left of a reader, and the texts of trace files, each if it is known.
module _ {B : Type 0} (left : B → Option (List ℕ)) (texts : ℕ → Option (List ℕ))
    (t : TopologyValue) where
  -- The trace files of partition p's interfaces were opened, up to the first that differs in its
  -- header, if one does: it is of an interface of the partition.
  pub record AreTracesOf (p : ℕ) (traces : LeastChecked B) : Type 0 where
    pub begun : AreBegun texts left traces
    pub within : length traces.files.files.items ≤ length t.ifaces
    pub own : IfSome traces.differs
        (λ d. (d.iface < length t.ifaces) × (receiver_of (net_of t) d.iface ≡ p))
    pub looked : (n : ℕ) → n < length t.ifaces → receiver_of (net_of t) n ≡ p
        → IsLesser n traces.differs → is_looked_at traces.files.files.items n ≡ true

  -- The files of the partitions were opened: part p is what was found of partition p, and the trace
  -- files of its interfaces.
  pub record IsOpened (p : ℕ) (f : Found B) (files : PartFiles B) : Type 0 where
    pub replica_is : files.replica ≡ f.replica
    pub known_is : files.known ≡ f.known
    pub traces : AreTracesOf p files.traces

  pub record AreOpened (found : List (Found B)) (parts : List (PartFiles B)) : Type 0 where
    pub count : length parts ≡ length found
    pub each : (p : ℕ) (f : Found B) (files : PartFiles B) → slice_get found p ≡ Some f
        → slice_get parts p ≡ Some files → IsOpened p f files

-- none of partition p was; or one could not be opened
abbrev pub IsNotFound : InputsSeen → (folders : List (List ℕ)) → ℕ → Fault CertifyCause → Type 0
IsNotFound inputs folders p fault = (fault ≡ Memory) ⊎ (fault ≡ Refused cause.Failed)
    ⊎ ((fault ≡ Refused (cause.NotCertified (Missing p))) × HasNoFile inputs folders p)

abbrev pub NoneIsFound : InputsSeen → (folders : List (List ℕ)) → ℕ → Fault CertifyCause → Type 0
NoneIsFound inputs folders n fault = (p : ℕ) × (p < n) × IsNotFound inputs folders p fault

-- Books that are certified, each by the first file of what is known that these folders have, and
-- the trace files beside those are the one event list's.
pub record AreCertifiedBooks (inputs : InputsSeen) (folders : List (List ℕ)) (t : TopologyValue)
    (books : List BookValue) : Type 0 where
  pub places : List FilePlace
  pub placed : ArePlaces inputs folders t places
  pub theirs : AreTheirBooks inputs t places books
  pub certified : AreCertified t books
  pub whole : (records : List (Record (List ℕ))) → IsTraceBefore t t.stop records
      → AreTheirTraces inputs t places records
