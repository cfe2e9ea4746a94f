-- What a certificate says of books, and what each of its faults shows.
use Rattle.std.specs.Prelude.{◌≡◌, ℕ, ◌==◌, ◌&&◌, Bool, false, if◌then◌else◌, ltb, not, All, Contains, codes, List, length, map, Option, Some, None, Result, Ok, Err}
use Rattle.nm_topology.specs.Topology.{receiving_iface}
use Rattle.nm_topology.specs.TopologyValue.{TopologyValue}
use Rattle.nm_model.specs.Before.{IsBefore, trace}
use Rattle.nm_model.specs.Accept.{last_from, same_message}
use Rattle.nm_model.specs.Certificate.{Book, CertificateFault, MissingPart, UnfinishedPart, PrefixFault, ClockFault, PromiseFault, FaultShows, IsCertified}
use Rattle.nm_model.specs.Certificate.{channel_fault, clock_fault, first_of, has_part, is_done, prefix_fault}
use Rattle.nm_model.specs.Join.{or_else}
use Rattle.nm_model.specs.Knowledge.{Know}
use Rattle.nm_model.specs.Lists.{nth}
use Rattle.nm_model.specs.Partition.{comes_in, sender_of}
use Rattle.nm_model.specs.Promise.{Tight}
use Rattle.nm_model.specs.Replica.{IsWithin}
use Rattle.nm_knowledge.specs.Octets.{same_octets}
use Rattle.nm_sim.specs.Network.{net_of}
use Rattle.nm_book.specs.Book.{BookValue, knowledge, replica_of, state_of}
use Rattle.nm_rounds.specs.SameTopology.{SaysSame}
use Rattle.nm_rounds.specs.declared.certify.CertFault.{CertFault}
use Rattle.nm_rounds.specs.declared.certify.CertFault.TheVariants.{Topology, Missing, Unfinished, Prefix, Clock, Promise}

-- the model's books
abbrev pub book_of : BookValue → Book (List ℕ)
book_of b = record { part = b.partition; replica = replica_of b }

abbrev pub books_of : List BookValue → List (Book (List ℕ))
books_of books = map book_of books

abbrev pub AreOf : TopologyValue → List BookValue → Type 0
AreOf t books = All (λ b. SaysSame b.topology t) books

-- All are books of this topology, each partition has one, each is done, and on each channel what
-- the receiver knows is what the sender has. Then each one's trace is the network's, whole.
pub record AreCertified (t : TopologyValue) (books : List BookValue) : Type 0 where
  pub ours : AreOf t books
  pub certified : IsCertified (net_of t) Tight (books_of books)
  pub traces : (last : ℕ) → IsBefore (net_of t) (net_of t).stop last
      → All (λ b. (state_of b).records ≡ trace (net_of t) b.partition last) books

-- all are books of this topology, and the model's certificate has this fault
abbrev pub ShowsFault : TopologyValue → List BookValue → CertificateFault → Type 0
ShowsFault t books f = AreOf t books × FaultShows (net_of t) Tight (books_of books) f

-- The answer of a certificate. The model names a channel by its receiving interface.
abbrev pub Certifies : TopologyValue → List BookValue → Result Unit CertFault → Type 0
Certifies t books (Ok u) = AreCertified t books
Certifies t books (Err Topology) = (b : BookValue) × Contains books b × (SaysSame b.topology t → ⊥)
Certifies t books (Err (Missing p)) = ShowsFault t books (MissingPart p)
Certifies t books (Err (Unfinished p)) = ShowsFault t books (UnfinishedPart p)
Certifies t books (Err (Prefix c n)) = ShowsFault t books (PrefixFault (receiving_iface t c) n)
Certifies t books (Err (Clock c)) = ShowsFault t books (ClockFault (receiving_iface t c))
Certifies t books (Err (Promise c)) = ShowsFault t books (PromiseFault (receiving_iface t c))

-- the model's fault, which speaks of no topology, and names a channel by its receiving interface
abbrev pub model_fault : TopologyValue → CertFault → Option CertificateFault
model_fault t Topology = None
model_fault t (Missing p) = Some (MissingPart p)
model_fault t (Unfinished p) = Some (UnfinishedPart p)
model_fault t (Prefix c n) = Some (PrefixFault (receiving_iface t c) n)
model_fault t (Clock c) = Some (ClockFault (receiving_iface t c))
model_fault t (Promise c) = Some (PromiseFault (receiving_iface t c))

-- How it goes: a step's answer is what the model's certificate finds there.
abbrev pub FindsFault : TopologyValue → Option CertificateFault → Result Unit CertFault → Type 0
FindsFault t found (Ok u) = found ≡ None
FindsFault t found (Err e) =
    (f : CertificateFault) × (model_fault t e ≡ Some f) × (found ≡ Some f)

-- a partition has no book; a book is not done
abbrev pub missing : List BookValue → ℕ → Option CertificateFault
missing books p = if has_part p (books_of books) then None else Some (MissingPart p)

abbrev pub unfinished : TopologyValue → Book (List ℕ) → Option CertificateFault
unfinished t b = if is_done (net_of t) b.part b.replica then None else Some (UnfinishedPart b.part)

-- each event that the book did was before the safe time
abbrev pub IsWithinSafe : TopologyValue → BookValue → Type 0
IsWithinSafe t b = IsWithin (net_of t) b.partition (knowledge b) b.events

-- both are there, and the same
abbrev pub is_same_entry : Option (ℕ × List ℕ) → Option (ℕ × List ℕ) → Bool
is_same_entry None o = false
is_same_entry (Some x) None = false
is_same_entry (Some x) (Some y) = same_message same_octets x y

-- the fault of channel c, with a known and this sent and promised on it
abbrev pub list_fault : ℕ → Know (List ℕ) → List (ℕ × List ℕ) → ℕ → Option CertificateFault
list_fault c a sent promised =
    or_else (prefix_fault same_octets c 0 a.list sent)
    (or_else (clock_fault c a.clock (nth sent (length a.list)))
    (if ltb promised a.clock && not (last_from a.clock a.list)
    then Some (PromiseFault c)
    else None))

-- the fault of channel c between the receiving book r and book s, if that sends on it; and beside
-- each of the books, if it comes into r
abbrev pub sender_fault : TopologyValue → ℕ → Book (List ℕ) → Book (List ℕ)
    → Option CertificateFault
sender_fault t c r s =
    if s.part == sender_of (net_of t) c
    then channel_fault (net_of t) same_octets Tight c r s
    else None

abbrev pub incoming_fault : TopologyValue → List BookValue → Book (List ℕ) → ℕ
    → Option CertificateFault
incoming_fault t books r c =
    if comes_in (net_of t) r.part c then first_of (sender_fault t c r) (books_of books) else None

-- the number by which reports name the fault
abbrev pub cert_fault_number : CertFault → ℕ
cert_fault_number (Prefix c n) = 1
cert_fault_number (Clock c) = 2
cert_fault_number (Promise c) = 3
cert_fault_number (Missing p) = 4
cert_fault_number (Unfinished p) = 5
cert_fault_number Topology = 6

-- the fault in words
abbrev pub cert_fault_words : CertFault → List ℕ
cert_fault_words (Prefix c n) = codes "a message is not the one that was sent"
cert_fault_words (Clock c) = codes "a message was sent that arrives before the channel clock"
cert_fault_words (Promise c) = codes "a channel clock is past what was promised"
cert_fault_words (Missing p) = codes "a partition has no book"
cert_fault_words (Unfinished p) = codes "a book is not done"
cert_fault_words Topology = codes "a book of another topology"
