-- What a link's session took and gave, step by step, and what the book did with it.
use Rattle.std.specs.Prelude.{◌≡◌, List, [], ◌∷◌, Option, Some, Ok, Err}
use Rattle.nm_knowledge.specs.declared.answer.Accepted.{Accepted}
use Rattle.nm_knowledge.specs.declared.answer.KnowFault.TheVariants.{Memory}
use Rattle.nm_book.specs.Book.{BookValue, message_channel}
use Rattle.nm_book.specs.Accepting.{Takes, message_taken}
use Rattle.nm_book.specs.declared.fault.AcceptFault.{AcceptFault}
use Rattle.nm_book.specs.declared.fault.AcceptFault.TheVariants.{Known}
use Rattle.nm_book.specs.declared.message.ChannelMessage.{ChannelMessage}
use Rattle.nm_frames.specs.declared.frame.Frame.{Frame}
use Rattle.nm_frames.specs.declared.taken.Taken.{Taken}
use Rattle.nm_frames.specs.declared.taken.Taken.TheVariants.{Greeted, Cursor, ForBook, Ended}
use Rattle.nm_frames.specs.Frame.{IsFrame}
use Rattle.nm_frames.specs.Lives.{SessionStep, Took, Gave, Broke}
use Rattle.nm_frames.specs.Owed.{after_giving, owed}
use Rattle.nm_frames.specs.Session.{SessionValue, purpose}
use Rattle.nm_shared.specs.Counted.{PassCounts}
use Rattle.nm_shared.specs.Known.{news}
use Rattle.nm_engine.specs.Acceptor.{AcceptorValue, taken_at}
use Rattle.nm_engine.specs.Passes.{CountsMore, IsMet, LinkState, Owner, at}

-- A pass acts on a book, which is this owner's if counts are exact.
module _ (o : Owner) where
  -- The book took the message in. The pass had counted `before`, and counts the message if it is
  -- new.
  abbrev pub IsTold : (before after : PassCounts) → ChannelMessage → Type 0
  IsTold before after m = (b : BookValue) × (c : BookValue) × (a : Accepted)
      × IsMet o before b × Takes b c (message_channel m) (message_taken b.knows m) (Ok a)
      × CountsMore o before (news (Ok a)) after

  -- it refused it, and not for want of memory
  abbrev pub IsRefused : PassCounts → ChannelMessage → Type 0
  IsRefused counts m = (b : BookValue) × (c : BookValue) × (e : AcceptFault)
      × (e ≡ Known Memory → ⊥) × IsMet o counts b
      × Takes b c (message_channel m) (message_taken b.knows m) (Err e)

  -- it had no memory for it
  abbrev pub LacksMemory : PassCounts → ChannelMessage → Type 0
  LacksMemory counts m = (b : BookValue) × (c : BookValue) × IsMet o counts b
      × Takes b c (message_channel m) (message_taken b.knows m) (Err (Known Memory))

  -- the book did what a frame is for
  abbrev pub IsServed : (before after : PassCounts) → Taken → Type 0
  IsServed before after Greeted = after ≡ before
  IsServed before after Cursor = after ≡ before
  IsServed before after (ForBook m) = IsTold before after m
  IsServed before after Ended = after ≡ before

  -- Step by step: the session takes each frame taken, and the book did what it is for; each frame
  -- given is what the session owes of the book as it then was.
  abbrev pub LinkLives : Option AcceptorValue → LinkState → List SessionStep → LinkState → Type 0
  LinkLives h x [] y = y ≡ x
  LinkLives h x (Took f ∷ r) y =
      (m : SessionValue) × (counts : PassCounts) × (taken_at h x.session f ≡ Ok m) × IsFrame f
      × IsServed x.counts counts (purpose f) × LinkLives h (at (Some m) counts) r y
  LinkLives h x (Gave f ∷ r) y =
      (m : SessionValue) × (b : BookValue) × (x.session ≡ Some m) × (owed m b ≡ Some f)
      × IsMet o x.counts b × IsFrame f × LinkLives h (at (Some (after_giving m f)) x.counts) r y
  LinkLives h x (Broke ∷ r) y = ⊥

-- the frames that were taken, in order, and those that were given
abbrev pub frames_in : List SessionStep → List Frame
frames_in [] = []
frames_in (Took f ∷ r) = f ∷ frames_in r
frames_in (Gave f ∷ r) = frames_in r
frames_in (Broke ∷ r) = frames_in r

abbrev pub frames_out : List SessionStep → List Frame
frames_out [] = []
frames_out (Took f ∷ r) = frames_out r
frames_out (Gave f ∷ r) = f ∷ frames_out r
frames_out (Broke ∷ r) = frames_out r
