-- What one turn of a link did.
use Rattle.std.specs.Prelude.{◌≡◌, ◌⊎◌, ℕ, ◌+◌, ◌<◌, ◌≤◌, nat_lt, if◌then◌else◌, Bool, true, false, List, [], ◌++◌, length, map, Option, Some, Result, Ok, Err}
use Rattle.nm_base.specs.Wire.{WireSeen}
use Rattle.nm_frames.specs.declared.frame.Frame.{Frame}
use Rattle.nm_frames.specs.Frame.{IsFrame, frame_octets, stream_octets}
use Rattle.nm_frames.specs.Lives.{Took, Gave}
use Rattle.nm_frames.specs.Session.{SessionValue}
use Rattle.nm_engine.specs.declared.answer.Cause.{Cause}
use Rattle.nm_engine.specs.declared.answer.Cause.TheVariants.{End, Fault, Frame as BadFrame, Session as BadSession, Book, Memory}
use Rattle.nm_engine.specs.declared.answer.Turn.{Turn}
use Rattle.nm_engine.specs.declared.answer.Turn.TheVariants.{Progress, Idle, Ended, Broken, Failed}
use Rattle.nm_engine.specs.declared.parts.Parts.{Parts}
use Rattle.nm_base.specs.declared.limits.TheConstants.{MAX_READ_OCTETS}
use Rattle.nm_engine.specs.Giving.{HoldsNone}
use Rattle.nm_engine.specs.Link.{IsPart, LinkValue, bye_taken}
use Rattle.nm_engine.specs.Lives.{LinkLives}
use Rattle.nm_engine.specs.Passes.{ByPass, LinkState, at}
use Rattle.nm_engine.specs.Reading.{ShowsFault}
use Rattle.nm_engine.specs.Taking.{BookRefuses, RunsShort, SessionRefuses}

-- how many faults of the wire a cause means
abbrev pub faults_of : Cause → ℕ
faults_of End = 0
faults_of Fault = 1
faults_of BadFrame = 0
faults_of BadSession = 0
faults_of Book = 0
faults_of Memory = 0

-- both ends have sent Bye, and nothing waits
pub record HasEnded (session : Option SessionValue) (out : List ℕ) : Type 0 where
  pub last : SessionValue
  pub there : session ≡ Some last
  pub bye_taken : last.bye_taken ≡ true
  pub bye_given : last.bye_given ≡ true
  pub empty : out ≡ []

-- the answer of a turn that went well, in which so many octets moved
abbrev pub answer_of : Bool → ℕ → Turn
answer_of ended moved = if ended then Ended else if nat_lt 0 moved then Progress else Idle

-- The acts of the pass in the turn are `by`.
module _ {W : Type 0} (seen : W → WireSeen) (by : ByPass) (old new : LinkValue W) where
  -- The octets held before and those received are the octets of the frames that the session took,
  -- and then the rest. The octets written, and then what is left, are those that waited before and
  -- those of the frames that the session gave after that.
  pub record Moves (rest left : List ℕ) : Type 0 where
    pub was_whole : old.failed ≡ false
    pub came : List ℕ
    pub went : List ℕ
    pub ins : List Frame
    pub outs : List Frame
    pub mid : LinkState
    pub most : length came ≤ MAX_READ_OCTETS
    pub came_in : (seen new.wire).given ≡ (seen old.wire).given ++ came
    pub framed : old.rest ++ came ≡ stream_octets ins ++ rest
    pub took : LinkLives by.owner old.acceptor (at old.session by.before) (map Took ins) mid
    pub gave : LinkLives by.owner old.acceptor mid (map Gave outs) (at new.session by.after)
    pub went_out : (seen new.wire).taken ≡ (seen old.wire).taken ++ went
    pub sent : went ++ left ≡ old.out ++ stream_octets outs
    pub acceptor : new.acceptor ≡ old.acceptor

  -- A turn that went well: the link holds the rest and what is left. The end was not found, unless
  -- the peer's Bye was taken before. The rest is no whole frame, and shows no fault. Before the
  -- write the buffer had all that the session owed, or was full.
  pub record Went : Type 0 where
    pub moves : Moves new.rest new.out
    pub sound : (seen new.wire).failures ≡ (seen old.wire).failures
    pub no_end : bye_taken old.session ≡ false → (seen new.wire).ends ≡ (seen old.wire).ends
    pub part : IsPart new.rest
    pub all : HoldsNone by.owner by.after new.session (moves.went ++ new.out)
    pub whole : new.failed ≡ false

  -- the rest begins with a frame that was not taken, for this reason
  abbrev pub StopsAt : (Frame → Type 0) → List ℕ → Type 0
  StopsAt Refuses rest =
      (f : Frame) × (more : List ℕ) × IsFrame f × (rest ≡ frame_octets f ++ more) × Refuses f

  -- where a turn stopped because memory was refused: at a frame that needed it, before any received
  -- frame was taken, or once all whole frames were
  abbrev pub StopsShort : (taken : List Frame) → List ℕ → LinkState → Type 0
  StopsShort taken rest mid =
      StopsAt (RunsShort by.owner old.acceptor mid.session mid.counts) rest
      ⊎ (taken ≡ []) ⊎ IsPart rest

  -- the reason of a cause, if these frames were taken and then the rest was left
  abbrev pub IsReason : Cause → (taken : List Frame) → List ℕ → LinkState → Type 0
  IsReason End taken rest mid =
      ((seen new.wire).ends ≡ (seen old.wire).ends + 1) × (bye_taken old.session ≡ false)
  IsReason Fault taken rest mid = Unit {0}
  IsReason BadFrame taken rest mid = ShowsFault rest
  IsReason BadSession taken rest mid = StopsAt (SessionRefuses old.acceptor mid.session) rest
  IsReason Book taken rest mid = StopsAt (BookRefuses by.owner mid.counts) rest
  IsReason Memory taken rest mid = StopsShort taken rest mid

  -- a turn in which the link broke: the rest was not taken, and what is left was not written
  pub record Breaks (cause : Cause) : Type 0 where
    pub rest : List ℕ
    pub left : List ℕ
    pub moves : Moves rest left
    pub reason : IsReason cause moves.ins rest moves.mid
    pub faults : (seen new.wire).failures ≡ (seen old.wire).failures + faults_of cause
    pub over : new.failed ≡ true

  -- a turn in which the link only read: the session gave nothing, and nothing was written
  pub record Heard : Type 0 where
    pub moves : Moves new.rest new.out
    pub none_given : moves.outs ≡ []
    pub none_went : moves.went ≡ []
    pub sound : (seen new.wire).failures ≡ (seen old.wire).failures
    pub no_end : bye_taken old.session ≡ false → (seen new.wire).ends ≡ (seen old.wire).ends
    pub part : IsPart new.rest
    pub whole : new.failed ≡ false

  -- what an answer means of a turn or half of one: it went well, with so many octets moved; or the
  -- link broke, or had broken before
  abbrev pub Says : (Well : Type 0) → (Well → ℕ) → Turn → Type 0
  Says Well moved Progress = (w : Well) × (0 < moved w) × (HasEnded new.session new.out → ⊥)
  Says Well moved Idle = (w : Well) × (moved w ≡ 0) × (HasEnded new.session new.out → ⊥)
  Says Well moved Ended = Well × HasEnded new.session new.out
  Says Well moved (Broken cause) = Breaks cause
  Says Well moved Failed = (old.failed ≡ true) × (new ≡ old)

  abbrev pub Hears : Turn → Type 0
  Hears turn = Says Heard (λ h. length h.moves.came) turn

  abbrev pub Turns : Turn → Type 0
  Turns turn = Says Went (λ w. length w.moves.came + length w.moves.went) turn

-- the link of these parts
abbrev pub link_of : {W : Type 0} → Parts W → Bool → LinkValue W
link_of parts failed = record {
  wire = parts.wire;
  acceptor = parts.party.acceptor;
  session = parts.party.session;
  rest = parts.reader.rest;
  out = parts.out.items;
  failed = failed;
}

-- the parts of a link that has not failed
module _ {W : Type 0} (seen : W → WireSeen) (by : ByPass) (old new : Parts W) where
  -- this, or the link broke
  abbrev pub OrBreaks : {A : Type 0} → (A → Type 0) → Result A Cause → Type 0
  OrBreaks Fine (Ok x) = Fine x
  OrBreaks Fine (Err cause) =
      Breaks seen by (link_of old false) (link_of new true) cause

  -- the link read, and received so many octets
  abbrev pub TakesIn : Result ℕ Cause → Type 0
  TakesIn result = OrBreaks
      (λ n. (h : Heard seen by (link_of old false) (link_of new false))
      × (length h.moves.came ≡ n))
      result

  abbrev pub Listens : Result Turn Cause → Type 0
  Listens result =
      OrBreaks (Hears seen by (link_of old false) (link_of new false)) result

  abbrev pub Works : Result Turn Cause → Type 0
  Works result =
      OrBreaks (Turns seen by (link_of old false) (link_of new false)) result
