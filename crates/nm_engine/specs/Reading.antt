-- The result of one read of a link.
use Rattle.std.specs.Prelude.{◌≡◌, ◌⊎◌, ℕ, ◌+◌, ◌≤◌, Bool, false, List, [], ◌++◌, length, Result, Ok, Err, Some}
use Rattle.std.specs.List.{AllByRecursion}
use Rattle.nm_base.specs.Wire.{WireSeen}
use Rattle.nm_frames.specs.declared.frame.Frame.{Frame}
use Rattle.nm_frames.specs.declared.fault.FrameFault.{FrameFault}
use Rattle.nm_frames.specs.Frame.{IsFrame, stream_octets}
use Rattle.nm_frames.specs.Reader.{ReaderValue}
use Rattle.nm_frames.specs.Stream.{fault_shown}
use Rattle.nm_engine.specs.declared.answer.Cause.{Cause}
use Rattle.nm_engine.specs.declared.answer.Cause.TheVariants.{End, Fault, Frame as BadFrame, Memory}
use Rattle.nm_base.specs.declared.limits.TheConstants.{MAX_READ_OCTETS}

-- octets that show why they begin no frame
abbrev pub ShowsFault : List ℕ → Type 0
ShowsFault rest = (e : FrameFault) × (fault_shown rest ≡ Some e)

-- these octets are those of these frames, and then a rest
pub record IsFramed (octets : List ℕ) (frames : List Frame) (rest : List ℕ) : Type 0 where
  pub parts : octets ≡ stream_octets frames ++ rest
  pub each : AllByRecursion IsFrame frames

-- the reader took a piece of so many octets, which completed these frames; or it took nothing, or
-- found a fault
abbrev pub FeedsReader : ReaderValue → List ℕ → List Frame → ReaderValue → Result ℕ Cause → Type 0
FeedsReader r piece frames q (Ok n) =
    (n ≡ length piece) × IsFramed (r.rest ++ piece) frames q.rest × (q.failed ≡ false)
FeedsReader r piece frames q (Err cause) =
    ((cause ≡ BadFrame)
    × ((rest : List ℕ) × IsFramed (r.rest ++ piece) frames rest × ShowsFault rest))
    ⊎ ((cause ≡ Memory) × (frames ≡ []))

module _ (old new : WireSeen) where
  -- these octets were received; with those held before they are the frames, and then the rest
  pub record Came (held : List ℕ) (frames : List Frame) (rest : List ℕ) : Type 0 where
    pub came : List ℕ
    pub most : length came ≤ MAX_READ_OCTETS
    pub came_in : new.given ≡ old.given ++ came
    pub framed : IsFramed (held ++ came) frames rest

  -- so many octets were received, and the reader goes on; the end is not found, unless it may be
  pub record ReadsOn (may_end : Bool) (r : ReaderValue) (frames : List Frame) (q : ReaderValue)
      (n : ℕ) : Type 0 where
    pub came : Came r.rest frames q.rest
    pub count : length came.came ≡ n
    pub sound : new.failures ≡ old.failures
    pub no_end : may_end ≡ false → new.ends ≡ old.ends
    pub whole : q.failed ≡ false

  -- why nothing more is read: the end is found and may not be, the wire failed, the rest is no
  -- frame, or memory was refused before a frame was read
  abbrev pub ReadEnds : Bool → Cause → List Frame → List ℕ → Type 0
  ReadEnds may_end cause frames rest =
      ((cause ≡ End) × (new.ends ≡ old.ends + 1) × (may_end ≡ false)
      × (new.failures ≡ old.failures))
      ⊎ ((cause ≡ Fault) × (frames ≡ []) × (new.failures ≡ old.failures + 1))
      ⊎ ((cause ≡ BadFrame) × ShowsFault rest × (new.failures ≡ old.failures))
      ⊎ ((cause ≡ Memory) × (frames ≡ []) × (new.failures ≡ old.failures))

  -- the reader goes on with these frames, or ends there
  abbrev pub Reads : Bool → (r q : ReaderValue) → List Frame × Result ℕ Cause → Type 0
  Reads may_end r q (frames, Ok n) = ReadsOn may_end r frames q n
  Reads may_end r q (frames, Err cause) =
      (rest : List ℕ) × Came r.rest frames rest × ReadEnds may_end cause frames rest
