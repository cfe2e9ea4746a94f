-- What a session gave, and what of it is in the buffer.
use Rattle.std.specs.Prelude.{◌≡◌, ℕ, ◌≤◌, ◌⊎◌, List, [], ◌++◌, length, map, Option, Some, None, Result, Ok, Err}
use Rattle.nm_base.specs.declared.limits.TheConstants.{FULL_OUT_OCTETS}
use Rattle.nm_book.specs.Book.{BookValue}
use Rattle.nm_frames.specs.declared.frame.Frame.{Frame}
use Rattle.nm_frames.specs.Frame.{stream_octets}
use Rattle.nm_frames.specs.Lives.{Gave}
use Rattle.nm_frames.specs.Owed.{owed}
use Rattle.nm_frames.specs.Session.{SessionValue}
use Rattle.nm_shared.specs.Counted.{PassCounts}
use Rattle.nm_engine.specs.Acceptor.{AcceptorValue}
use Rattle.nm_engine.specs.Lives.{LinkLives}
use Rattle.nm_engine.specs.Passes.{IsMet, LinkState, Owner}

-- frames were given, and are at the end of the buffer but for the lost octets
pub record GivesFrames (o : Owner) (h : Option AcceptorValue) (x y : LinkState)
    (before after lost : List ℕ) : Type 0 where
  pub outs : List Frame
  pub gave : LinkLives o h x (map Gave outs) y
  pub put : after ++ lost ≡ before ++ stream_octets outs

-- the same of a call that is refused for memory alone
abbrev pub GivesOr : {A E : Type 0} → Owner → LinkState → LinkState → List ℕ → List ℕ → Result A E
    → Type 0
GivesOr o x y before after (Ok r) =
    (h : Option AcceptorValue) → GivesFrames o h x y before after []
GivesOr o x y before after (Err e) =
    (h : Option AcceptorValue) → (lost : List ℕ) × GivesFrames o h x y before after lost

-- a session owes nothing of the book as the last act met it; without a session nothing is owed
abbrev pub OwesNone : Owner → PassCounts → Option SessionValue → Type 0
OwesNone o counts None = Unit {0}
OwesNone o counts (Some s) = (b : BookValue) × IsMet o counts b × (owed s b ≡ None)

-- nothing is held back without a reason: the session owes nothing of the book, or the buffer is
-- full
abbrev pub HoldsNone : Owner → PassCounts → Option SessionValue → List ℕ → Type 0
HoldsNone o counts s waiting = OwesNone o counts s ⊎ (FULL_OUT_OCTETS ≤ length waiting)
