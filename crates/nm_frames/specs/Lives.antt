-- A session over any frames taken and given, and breaks.
use Rattle.std.specs.Prelude.{◌≡◌, ℕ, ◌+◌, ◌==◌, List, [], ◌∷◌, Option, Some, None, Ok, if◌then◌else◌}
use Rattle.std.specs.List.{AllByRecursion}
use Rattle.nm_topology.specs.TopologyValue.{TopologyValue}
use Rattle.nm_book.specs.Book.{BookValue}
use Rattle.nm_frames.specs.declared.frame.Frame.{Frame}
use Rattle.nm_frames.specs.declared.frame.Frame.TheVariants.{Hello, Have, Data, Null, Bye}
use Rattle.nm_frames.specs.declared.side.ChannelOut.{ChannelOut}
use Rattle.nm_frames.specs.Owed.{after_giving, owed}
use Rattle.nm_frames.specs.Session.{SessionValue, broken, new_session, taken}

pub data SessionStep : Type 0 where
  Took : Frame → SessionStep
  Gave : Frame → SessionStep
  Broke : SessionStep

-- Step by step: each frame taken is one that the session takes, each frame given is one that it
-- owes of some book, which others may have changed since the step before.
abbrev pub Lives : SessionValue → List SessionStep → SessionValue → Type 0
Lives s [] t = t ≡ s
Lives s (Took f ∷ r) t = (m : SessionValue) × (taken s f ≡ Ok m) × Lives m r t
Lives s (Gave f ∷ r) t = (b : BookValue) × (owed s b ≡ Some f) × Lives (after_giving s f) r t
Lives s (Broke ∷ r) t = Lives (broken s) r t

-- the number that is due on channel c after a frame is taken, and after it is given
abbrev pub due_taken : ℕ → Option ℕ → Frame → Option ℕ
due_taken c due (Hello h) = due
due_taken c due (Have h) = if h.channel == c then Some h.count else due
due_taken c due (Data d) = due
due_taken c due (Null n) = due
due_taken c due Bye = due

abbrev pub due_given : ℕ → Option ℕ → Frame → Option ℕ
due_given c due (Hello h) = due
due_given c due (Have h) = due
due_given c due (Data d) = if d.channel == c then Some (d.number + 1) else due
due_given c due (Null n) = due
due_given c due Bye = due

-- a message on channel c has the number that is due
abbrev pub IsDue : ℕ → Option ℕ → Frame → Type 0
IsDue c due (Hello h) = Unit {0}
IsDue c due (Have h) = Unit {0}
IsDue c due (Data d) = d.channel ≡ c → due ≡ Some d.number
IsDue c due (Null n) = Unit {0}
IsDue c due Bye = Unit {0}

-- Each message given on channel c has the number of the last Have on it, or the one after that of
-- the message given before: no number is left out, and none comes twice. None is due before the
-- first Have, and after a break.
abbrev pub AreConsecutive : ℕ → Option ℕ → List SessionStep → Type 0
AreConsecutive c due [] = Unit {0}
AreConsecutive c due (Took f ∷ r) = AreConsecutive c (due_taken c due f) r
AreConsecutive c due (Gave f ∷ r) = IsDue c due f × AreConsecutive c (due_given c due f) r
AreConsecutive c due (Broke ∷ r) = AreConsecutive c None r

-- the number that is due after these steps
abbrev pub due_after : ℕ → Option ℕ → List SessionStep → Option ℕ
due_after c due [] = due
due_after c due (Took f ∷ r) = due_after c (due_taken c due f) r
due_after c due (Gave f ∷ r) = due_after c (due_given c due f) r
due_after c due (Broke ∷ r) = due_after c None r

-- the cursor of channel c, if that is one of these
abbrev pub HasCursor : ℕ → Option ℕ → List ChannelOut → Type 0
HasCursor c due os = AllByRecursion (λ o. o.channel ≡ c → o.cursor ≡ due) os

-- The messages that a session gives on channel c over these steps have their numbers in order: from
-- the start of a session on; and from the cursor of one that has lived already, which is then
-- behind them.
pub record AreNumbered (c : ℕ) (steps : List SessionStep) (last : SessionValue) : Type 0 where
  pub first : (t : TopologyValue) (me replica peer : ℕ)
      → Lives (new_session t me replica peer) steps last → AreConsecutive c None steps
  pub later : (s : SessionValue) (cursor : Option ℕ) → HasCursor c cursor s.outgoing
      → Lives s steps last
      → AreConsecutive c cursor steps × HasCursor c (due_after c cursor steps) last.outgoing
