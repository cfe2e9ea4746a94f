-- A link over many turns.
use Rattle.std.specs.Prelude.{◌≡◌, ◌⊎◌, ℕ, false, List, [], ◌∷◌, ◌++◌, Option, Some, None}
use Rattle.nm_base.specs.Wire.{WireSeen}
use Rattle.nm_frames.specs.Frame.{stream_octets}
use Rattle.nm_frames.specs.Lives.{HasCursor, SessionStep}
use Rattle.nm_frames.specs.Session.{SessionValue}
use Rattle.nm_engine.specs.declared.answer.Turn.{Turn}
use Rattle.nm_engine.specs.Link.{LinkValue}
use Rattle.nm_engine.specs.Lives.{LinkLives, frames_in, frames_out}
use Rattle.nm_engine.specs.Passes.{ByPass, anyone, at, none_counted}
use Rattle.nm_engine.specs.Turn.{Hears, Turns}

-- Turn by turn, or half turn in which the link only read: each answer, and the link after it.
-- Between turns the pass may count what others do.
abbrev pub GoesOn : {W : Type 0} → (W → WireSeen) → LinkValue W → List (Turn × LinkValue W)
    → LinkValue W → Type 0
GoesOn seen old [] new = new ≡ old
GoesOn seen old (p ∷ path) new =
    (by : ByPass) × (Turns seen by old p.1 p.0 ⊎ Hears seen by old p.1 p.0)
    × GoesOn seen p.1 path new

-- Over all turns, the octets held at first and those received are the octets of the frames taken,
-- and then the rest. The octets written, and then what is left, are the octets that waited at first
-- and those of the frames given. A link that has not failed holds the rest and what is left. So
-- nothing is lost, and nothing is made up. Each turn defines which book took and owed what.
pub record Accounts {W : Type 0} (seen : W → WireSeen) (first last : LinkValue W) : Type 0 where
  pub steps : List SessionStep
  pub came : List ℕ
  pub went : List ℕ
  pub rest : List ℕ
  pub left : List ℕ
  pub came_in : (seen last.wire).given ≡ (seen first.wire).given ++ came
  pub framed : first.rest ++ came ≡ stream_octets (frames_in steps) ++ rest
  pub lived : LinkLives anyone first.acceptor (at first.session none_counted) steps
      (at last.session none_counted)
  pub went_out : (seen last.wire).taken ≡ (seen first.wire).taken ++ went
  pub sent : went ++ left ≡ first.out ++ stream_octets (frames_out steps)
  pub acceptor : last.acceptor ≡ first.acceptor
  pub whole : last.failed ≡ false → (rest ≡ last.rest) × (left ≡ last.out)

-- the number of the next message on channel c; there is none before there is a session
abbrev pub HasDue : ℕ → Option ℕ → Option SessionValue → Type 0
HasDue c due None = due ≡ None
HasDue c due (Some s) = HasCursor c due s.outgoing
