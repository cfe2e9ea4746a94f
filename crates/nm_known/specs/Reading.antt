-- How far a file of what a replica knows was read.
use Rattle.std.specs.Prelude.{◌≡◌, ◌≢◌, ℕ, suc, ◌+◌, ◌<◌, ◌≤◌, true, false, List, [], ◌∷◌, ◌++◌, length, slice_set, Option, None, IfSome, IsSomeAnd}
use Rattle.std.specs.List.{AllByRecursion}
use Rattle.nm_base.specs.declared.fault.Fault.{Fault}
use Rattle.nm_base.specs.declared.fault.Fault.TheVariants.{Memory, Refused}
use Rattle.nm_model.specs.Knowledge.{IsUnder, nothing_known}
use Rattle.nm_knowledge.specs.Order.{IsAccepted}
use Rattle.nm_knowledge.specs.declared.answer.KnowFault.TheVariants.{Gap, Differs, Late, NotRising, Memory as KnowMemory, Contrary}
use Rattle.nm_book.specs.Accepting.{message_taken}
use Rattle.nm_book.specs.Book.{BookValue, is_incoming, message_channel}
use Rattle.nm_book.specs.declared.fault.AcceptFault.{AcceptFault}
use Rattle.nm_book.specs.declared.fault.AcceptFault.TheVariants.{Known, Stranger}
use Rattle.nm_book.specs.declared.message.ChannelMessage.{ChannelMessage}
use Rattle.nm_frames.specs.declared.fault.FrameFault.{FrameFault}
use Rattle.nm_frames.specs.declared.fault.FrameFault.TheVariants.{BadLength, BadKind, BadBody, Failed as HasFailed, Memory as LacksMemory}
use Rattle.nm_frames.specs.declared.frame.Frame.{Frame}
use Rattle.nm_frames.specs.declared.frame.Frame.TheVariants.{Hello, Have, Data, Null, Bye}
use Rattle.nm_frames.specs.declared.frame.Hello.{Hello as HelloFields}
use Rattle.nm_frames.specs.Frame.{IsFrame, null_frame, stream_octets}
use Rattle.nm_frames.specs.Reader.{ReaderValue}
use Rattle.nm_frames.specs.Stream.{IsShort, fault_shown}
use Rattle.nm_known.specs.Known.{IsOfReplica, channel_known, frames_below, known_frames, message_frames, replica_hello}
use Rattle.nm_known.specs.declared.known_fault.KnownCause.{KnownCause}
use Rattle.nm_known.specs.declared.known_fault.KnownCause.TheVariants.{Topology, Form, Failed}
use Rattle.nm_known.specs.declared.taking.Expected.{Expected}
use Rattle.nm_known.specs.declared.taking.Expected.TheVariants.{Hello as ExpectsHello, Channel as ExpectsChannel, End as ExpectsEnd}

-- nothing is known of the channels from number n on
abbrev pub KnowsNoneFrom : BookValue → ℕ → Type 0
KnowsNoneFrom b n = (c : ℕ) → n ≤ c → channel_known b c ≡ nothing_known

-- none of the channels from number n on, and below number m, comes in
abbrev pub ComesNone : BookValue → ℕ → ℕ → Type 0
ComesNone b n m = (c : ℕ) → n ≤ c → c < m → is_incoming b c ≡ false

-- after the channels below number n this comes next
abbrev pub IsAfter : BookValue → ℕ → Expected → Type 0
IsAfter b n ExpectsHello = ⊥
IsAfter b n (ExpectsChannel c) =
    (n ≤ c) × (c < length b.topology.receivers) × (is_incoming b c ≡ true) × ComesNone b n c
IsAfter b n ExpectsEnd = ComesNone b n (length b.topology.receivers)

-- These frames are at the front of the file of what the book knows by now, and this comes next: of
-- a channel its further messages and its null message.
abbrev pub AreFront : BookValue → Expected → List Frame → Type 0
AreFront b ExpectsHello frames = (frames ≡ []) × KnowsNoneFrom b 0
AreFront b (ExpectsChannel c) frames =
    (frames ≡ replica_hello b ∷ (frames_below b c ++ message_frames c 0 (channel_known b c).list))
    × (c < length b.topology.receivers) × KnowsNoneFrom b (c + 1)
AreFront b ExpectsEnd frames = frames ≡ known_frames b

-- Another book's file goes on with these frames, amid those of channel c: with the messages that
-- are not known here, the null message, and the frames of later channels.
pub record IsAmid (b other : BookValue) (c : ℕ) (rest : List Frame) : Type 0 where
  pub comes : is_incoming b c ≡ true
  pub under : IsUnder (channel_known b c) (channel_known other c)
  pub later : List Frame
  pub below : frames_below other (length b.topology.receivers)
      ≡ frames_below other (suc c) ++ later
  pub parts : rest ≡ message_frames c (length (channel_known b c).list) under.begins.0
      ++ (null_frame c (length (channel_known other c).list) (channel_known other c).clock ∷ later)

-- another book's file goes on with these frames
abbrev pub Continues : BookValue → BookValue → Expected → List Frame → Type 0
Continues b other ExpectsHello rest = rest ≡ known_frames other
Continues b other (ExpectsChannel c) rest = IsAmid b other c rest
Continues b other ExpectsEnd rest = rest ≡ []

-- So far these frames were taken. If they are at the front of another book's file, it is known how
-- that goes on.
pub record HasHeard (b : BookValue) (next : Expected) (frames : List Frame) : Type 0 where
  pub count : length b.knows ≡ length b.topology.receivers
  pub front : AreFront b next frames
  pub follows : (other : BookValue) → IsOfReplica b other → (rest : List Frame)
      → known_frames other ≡ frames ++ rest → Continues b other next rest

-- a book took a message of a channel that comes in
pub record Learned (old new : BookValue) (m : ChannelMessage) : Type 0 where
  pub comes : is_incoming old (message_channel m) ≡ true
  pub accepted : IsAccepted (message_taken old.knows m).answer
  pub after : new.knows
      ≡ slice_set old.knows (message_channel m) (message_taken old.knows m).after

-- or why it did not: memory was refused, or it is none that it takes
abbrev pub Refuses : BookValue → ChannelMessage → Fault KnownCause → Type 0
Refuses b m Memory = Unit {0}
Refuses b m (Refused Form) =
    is_incoming b (message_channel m) ≡ true → IsAccepted (message_taken b.knows m).answer → ⊥
Refuses b m (Refused Failed) = ⊥
Refuses b m (Refused Topology) = ⊥

-- what faults of frames and of the book are to a file
abbrev pub frame_fault : FrameFault → Fault KnownCause
frame_fault LacksMemory = Memory
frame_fault BadLength = Refused Form
frame_fault BadKind = Refused Form
frame_fault BadBody = Refused Form
frame_fault HasFailed = Refused Form

abbrev pub accept_fault : AcceptFault → Fault KnownCause
accept_fault Stranger = Refused Form
accept_fault (Known KnowMemory) = Memory
accept_fault (Known (Gap have)) = Refused Form
accept_fault (Known (Differs number)) = Refused Form
accept_fault (Known (Late clock)) = Refused Form
accept_fault (Known NotRising) = Refused Form
accept_fault (Known (Contrary count)) = Refused Form

-- why a Hello is not the replica's own
abbrev pub RefusesHello : BookValue → HelloFields → Fault KnownCause → Type 0
RefusesHello b h Memory = ⊥
RefusesHello b h (Refused Form) = Hello h ≢ replica_hello b
RefusesHello b h (Refused Failed) = ⊥
RefusesHello b h (Refused Topology) = h.digest ≢ b.topology.digest

-- the first of these frames is the Hello of another topology
abbrev pub BeginsOther : BookValue → List Frame → Type 0
BeginsOther b [] = ⊥
BeginsOther b (Hello h ∷ frames) = h.digest ≢ b.topology.digest
BeginsOther b (Have h ∷ frames) = ⊥
BeginsOther b (Data d ∷ frames) = ⊥
BeginsOther b (Null n ∷ frames) = ⊥
BeginsOther b (Bye ∷ frames) = ⊥

-- these frames are at the front of no file of the replica
abbrev pub IsNoFront : BookValue → List Frame → Type 0
IsNoFront b frames = (other : BookValue) → IsOfReplica b other → (rest : List Frame)
    → known_frames other ≢ frames ++ rest

-- why these frames are refused
abbrev pub Explains : BookValue → List Frame → Fault KnownCause → Type 0
Explains b frames Memory = Unit {0}
Explains b frames (Refused Form) = IsNoFront b frames
Explains b frames (Refused Failed) = Unit {0}
Explains b frames (Refused Topology) = BeginsOther b frames

-- the reader of frames is sound, and holds no whole frame
pub record HoldsPart (reader : ReaderValue) : Type 0 where
  pub sound : reader.failed ≡ false
  pub no_fault : fault_shown reader.rest ≡ None
  pub short : IsShort reader.rest

-- The octets that a reader of frames holds and that are left of the file were these frames, and
-- what it holds and is left now.
pub record CutsOff (before after : Option (List ℕ)) (old new : ReaderValue) (frames : List Frame)
    : Type 0 where
  pub holds : HoldsPart new
  pub each : AllByRecursion IsFrame frames
  pub parts : IfSome before (λ rest. IsSomeAnd after (λ left.
      old.rest ++ rest ≡ stream_octets frames ++ (new.rest ++ left)))

-- of a text frames were taken, and what the reader holds and is left comes after them
pub record IsReadUpTo (text : List ℕ) (b : BookValue) (next : Expected) (reader : ReaderValue)
    (left : List ℕ) : Type 0 where
  pub frames : List Frame
  pub heard : HasHeard b next frames
  pub each : AllByRecursion IsFrame frames
  pub parts : text ≡ stream_octets frames ++ (reader.rest ++ left)

-- the same if the text is known
abbrev pub IsReadTo : Option (List ℕ) → BookValue → Expected → ReaderValue → Option (List ℕ)
    → Type 0
IsReadTo text b next reader after =
    IfSome text (λ text. IsSomeAnd after (IsReadUpTo text b next reader))
