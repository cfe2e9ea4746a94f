-- A stream that comes in pieces.
use Rattle.std.specs.Prelude.{◌≡◌, ℕ, Bool, true, false, List, [], ◌∷◌, ◌++◌, Some, None, Result, Ok, Err, if◌then◌else◌}
use Rattle.nm_frames.specs.declared.frame.Frame.{Frame}
use Rattle.nm_frames.specs.declared.fault.FrameFault.{FrameFault}
use Rattle.nm_frames.specs.declared.fault.FrameFault.TheVariants.{BadLength, BadKind, BadBody, Failed, Memory}
use Rattle.nm_frames.specs.Stream.{fault_shown, IsShort, Splits}
use Rattle.nm_frames.specs.Reader.{ReaderValue, Feeds}

-- a reader at the front of a stream
abbrev pub new_reader : ReaderValue
new_reader = record { rest = []; failed = false }

-- whether a piece has come: one is fed again if memory was refused for it
abbrev pub has_come : Result Unit FrameFault → Bool
has_come (Ok _) = true
has_come (Err BadLength) = true
has_come (Err BadKind) = true
has_come (Err BadBody) = true
has_come (Err Failed) = true
has_come (Err Memory) = false

-- the pieces that have come, one after another
abbrev pub stream_of : List (List ℕ × Result Unit FrameFault) → List ℕ
stream_of [] = []
stream_of (p ∷ ps) = if has_come p.1 then p.0 ++ stream_of ps else stream_of ps

-- the pieces were fed one after another, each with its answer
abbrev pub FeedsAll : ReaderValue → List Frame → List (List ℕ × Result Unit FrameFault)
    → ReaderValue → List Frame → Type 0
FeedsAll old before [] new after = (new ≡ old) × (after ≡ before)
FeedsAll old before (p ∷ ps) new after =
    (mid : ReaderValue) × (frames : List Frame) × Feeds old mid p.0 before frames p.1
    × FeedsAll mid frames ps new after

-- The stream is these frames and a rest. Either the rest shows no fault, and the reader holds it,
-- or it shows one, and the reader has failed.
pub record HasRead (stream : List ℕ) (reader : ReaderValue) (frames : List Frame) : Type 0 where
  pub rest : List ℕ
  pub splits : Splits stream frames rest
  pub sound : reader.failed ≡ false
      → (reader.rest ≡ rest) × (fault_shown rest ≡ None) × IsShort rest
  pub over : reader.failed ≡ true
      → (reader.rest ≡ []) × (e : FrameFault) × (fault_shown rest ≡ Some e)
