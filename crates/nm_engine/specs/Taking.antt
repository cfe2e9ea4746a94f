-- Which of the received frames a session took, and why no more.
use Rattle.std.specs.Prelude.{◌≡◌, ◌⊎◌, List, ◌∷◌, ◌++◌, map, Option, Some, None, Result, Ok, Err}
use Rattle.nm_book.specs.declared.message.ChannelMessage.{ChannelMessage}
use Rattle.nm_frames.specs.declared.frame.Frame.{Frame}
use Rattle.nm_frames.specs.declared.session_fault.SessionFault.{SessionFault}
use Rattle.nm_frames.specs.declared.taken.Taken.TheVariants.{ForBook, Greeted}
use Rattle.nm_frames.specs.Lives.{Took}
use Rattle.nm_frames.specs.Session.{SessionValue, purpose}
use Rattle.nm_shared.specs.Counted.{PassCounts}
use Rattle.nm_engine.specs.declared.answer.Cause.{Cause}
use Rattle.nm_engine.specs.declared.answer.Cause.TheVariants.{Session as BadSession, Book, Memory}
use Rattle.nm_engine.specs.Acceptor.{AcceptorValue, IsFromBelow, first_taken, taken_at}
use Rattle.nm_engine.specs.Lives.{IsRefused, IsServed, IsTold, LacksMemory, LinkLives}
use Rattle.nm_engine.specs.Passes.{LinkState, Owner}

-- A pass acts on a book, which is this owner's if counts are exact. It had counted `before`, and
-- has counted `after`.
module _ (o : Owner) where
  -- it took a message in, or why not
  abbrev pub Tells : (before after : PassCounts) → ChannelMessage → Result Unit Cause → Type 0
  Tells before after m (Ok u) = IsTold o before after m
  Tells before after m (Err cause) = (after ≡ before)
      × (((cause ≡ Book) × IsRefused o before m) ⊎ ((cause ≡ Memory) × LacksMemory o before m))

  -- it refuses a frame's message or null message
  abbrev pub BookRefuses : PassCounts → Frame → Type 0
  BookRefuses counts f =
      (m : ChannelMessage) × (purpose f ≡ ForBook m) × IsRefused o counts m

-- memory for a frame was refused: to the book, for the message that the session takes; or to the
-- session that a first frame makes
abbrev pub RunsShort : Owner → Option AcceptorValue → Option SessionValue → PassCounts → Frame
    → Type 0
RunsShort o h (Some s) counts f =
    (t : SessionValue) × (taken_at h (Some s) f ≡ Ok t)
    × ((m : ChannelMessage) × (purpose f ≡ ForBook m) × LacksMemory o counts m)
RunsShort o (Some h) None counts f = IsFromBelow h f
RunsShort o None None counts f = ⊥

-- a session refuses a frame
abbrev pub SessionRefuses : Option AcceptorValue → Option SessionValue → Frame → Type 0
SessionRefuses h s f = (e : SessionFault) × (taken_at h s f ≡ Err e)

module _ (o : Owner) (h : Option AcceptorValue) where
  -- why a frame is not taken: the session refuses it, the book refuses what it is for, or memory is
  -- refused
  abbrev pub Stops : Cause → LinkState → Frame → Type 0
  Stops cause x f =
      ((cause ≡ BadSession) × SessionRefuses h x.session f)
      ⊎ ((cause ≡ Book) × BookRefuses o x.counts f)
      ⊎ ((cause ≡ Memory) × RunsShort o h x.session x.counts f)

  -- a frame was taken, or changed nothing
  abbrev pub TakesOne : LinkState → Frame → LinkState → Result Unit Cause → Type 0
  TakesOne x f y (Ok u) =
      (m : SessionValue) × (taken_at h x.session f ≡ Ok m)
      × IsServed o x.counts y.counts (purpose f) × (y.session ≡ Some m)
  TakesOne x f y (Err cause) = (y ≡ x) × Stops cause x f

  -- all frames were taken, or those before the first that is not
  abbrev pub TakesAll : LinkState → List Frame → LinkState → Result Unit Cause → Type 0
  TakesAll x frames y (Ok u) = LinkLives o h x (map Took frames) y
  TakesAll x frames y (Err cause) =
      (front : List Frame) × (f : Frame) × (back : List Frame)
      × (frames ≡ front ++ f ∷ back) × LinkLives o h x (map Took front) y × Stops cause y f

-- a peer's first frame made a session, or did not
abbrev pub Greets : AcceptorValue → Frame → Result SessionValue Cause → Type 0
Greets h f (Ok s) = (first_taken h f ≡ Ok s) × (purpose f ≡ Greeted)
Greets h f (Err cause) =
    ((cause ≡ BadSession) × ((e : SessionFault) × (first_taken h f ≡ Err e)))
    ⊎ ((cause ≡ Memory) × IsFromBelow h f)
