-- A file of what a replica knows: frames, as of a connection.
use Rattle.std.specs.Prelude.{◌≡◌, ◌≢◌, ℕ, zero, suc, ◌<◌, true, List, [], ◌∷◌, ◌++◌, length, replicate, slice_index_or, Option, IfSome, if◌then◌else◌}
use Rattle.std.specs.List.{AllByRecursion}
use Rattle.nm_base.specs.declared.fault.Fault.{Fault}
use Rattle.nm_base.specs.declared.fault.Fault.TheVariants.{Memory, Refused}
use Rattle.nm_model.specs.Knowledge.{IsKnow, Know, nothing_known}
use Rattle.nm_book.specs.Book.{BookValue, is_incoming}
use Rattle.nm_frames.specs.declared.frame.Frame.{Frame}
use Rattle.nm_frames.specs.declared.frame.Frame.TheVariants.{Hello}
use Rattle.nm_frames.specs.declared.frame.Hello.{Hello as HelloFields}
use Rattle.nm_frames.specs.declared.version.Version.TheVariants.{Two}
use Rattle.nm_frames.specs.Frame.{IsFrame, data_frame, frame_octets, hello_frame, null_frame, stream_octets}
use Rattle.nm_frames.specs.Version.{version_number}
use Rattle.nm_known.specs.declared.known_fault.KnownCause.{KnownCause}
use Rattle.nm_known.specs.declared.known_fault.KnownCause.TheVariants.{Topology, Form, Failed}

-- which replica's knowledge it is
abbrev pub replica_hello : BookValue → Frame
replica_hello b = hello_frame (version_number Two) b.partition b.replica b.topology.digest

-- messages of channel c, the first of which has number n
abbrev pub message_frames : ℕ → ℕ → List (ℕ × List ℕ) → List Frame
message_frames c n [] = []
message_frames c n (m ∷ ms) = data_frame c n m.0 m.1 ∷ message_frames c (suc n) ms

-- all that is known of channel c: its messages, how many there are, and its clock
abbrev pub channel_frames : ℕ → Know (List ℕ) → List Frame
channel_frames c k = message_frames c 0 k.list ++ null_frame c (length k.list) k.clock ∷ []

-- what a replica knows of channel c
abbrev pub channel_known : BookValue → ℕ → Know (List ℕ)
channel_known b c = slice_index_or b.knows c nothing_known

-- which is in the file if it comes in
abbrev pub told_of : BookValue → ℕ → List Frame
told_of b c = if is_incoming b c then channel_frames c (channel_known b c) else []

-- of each channel below number n
abbrev pub frames_below : BookValue → ℕ → List Frame
frames_below b zero = []
frames_below b (suc c) = frames_below b c ++ told_of b c

-- the file
abbrev pub known_frames : BookValue → List Frame
known_frames b = replica_hello b ∷ frames_below b (length b.topology.receivers)

abbrev pub known_octets : BookValue → List ℕ
known_octets b = stream_octets (known_frames b)

-- nothing is known of any channel
abbrev pub KnowsNothing : BookValue → Type 0
KnowsNothing b = b.knows ≡ replicate (length b.topology.receivers) nothing_known

-- a text that begins with the Hello of another topology
abbrev pub IsOfOther : BookValue → List ℕ → Type 0
IsOfOther b text = (h : HelloFields) × (rest : List ℕ) × IsFrame (Hello h)
    × (text ≡ frame_octets (Hello h) ++ rest) × (h.digest ≢ b.topology.digest)

-- what is known of the channels below number n that come in was come by
abbrev pub AreKnown : BookValue → ℕ → Type 0
AreKnown b n = (c : ℕ) → c < n → is_incoming b c ≡ true → IsKnow (channel_known b c)

-- A book of the same replica: what it knows of each channel was come by, and each frame of its file
-- fits its octets.
pub record IsOfReplica (b other : BookValue) : Type 0 where
  pub topology : other.topology ≡ b.topology
  pub partition : other.partition ≡ b.partition
  pub replica : other.replica ≡ b.replica
  pub knows : AreKnown other (length other.topology.receivers)
  pub fits : AllByRecursion IsFrame (known_frames other)

-- the same is known of each channel that comes in
abbrev pub KnowsSame : BookValue → BookValue → Type 0
KnowsSame b other = (c : ℕ) → c < length b.topology.receivers → is_incoming b c ≡ true
    → channel_known other c ≡ channel_known b c

-- each of them that has this text as its file knows the same
abbrev pub TellsOnly : BookValue → List ℕ → Type 0
TellsOnly b text = (other : BookValue) → IsOfReplica b other → text ≡ known_octets other
    → KnowsSame b other

-- the file of none of them
abbrev pub IsNoFile : BookValue → List ℕ → Type 0
IsNoFile b text = (other : BookValue) → IsOfReplica b other → text ≢ known_octets other

-- the meaning of a fault for a text that was read, if the text is known
abbrev pub ExplainsText : BookValue → Option (List ℕ) → Fault KnownCause → Type 0
ExplainsText b text Memory = Unit {0}
ExplainsText b text (Refused Form) = IfSome text (IsNoFile b)
ExplainsText b text (Refused Failed) = Unit {0}
ExplainsText b text (Refused Topology) = IfSome text (IsOfOther b)
