-- What a reader holds, and what it makes of a piece.
use Rattle.std.specs.Prelude.{◌≡◌, ◌⊎◌, ◌<◌, ◌≤◌, ◌+◌, drop, length, slice_index, take, ℕ, Bool, true, false, List, [], ◌++◌, Option, Some, None, Result, Ok, Err}
use Rattle.std.specs.List.{AllByRecursion}
use Rattle.nm_frames.specs.declared.frame.Frame.{Frame}
use Rattle.nm_frames.specs.declared.rest.Rest.{Rest}
use Rattle.nm_frames.specs.declared.fault.FrameFault.{FrameFault}
use Rattle.nm_frames.specs.declared.fault.FrameFault.TheVariants.{BadLength, BadKind, BadBody, Failed, Memory}
use Rattle.nm_frames.specs.Frame.{IsFrame, frame_octets, stream_octets}
use Rattle.nm_base.specs.declared.limits.TheConstants.{MAX_BODY_OCTETS}
use Rattle.nm_frames.specs.declared.format.TheConstants.{HEAD_OCTETS, LENGTH_OCTETS}
use Rattle.nm_frames.specs.Stream.{fault_shown, fits_kind, is_bad_kind, stated_length, IsShort}

-- the octets of a frame that has not come whole, none once the stream has shown a fault, and
-- whether it has
pub record ReaderValue : Type 0 where
  pub rest : List ℕ
  pub failed : Bool

-- the octets of a rest in its two parts
abbrev pub rest_octets : Rest → List ℕ
rest_octets rest = rest.cut ++ rest.open.items

-- a fault that the octets of a stream show
abbrev pub IsOfStream : FrameFault → Type 0
IsOfStream e = (e ≡ BadLength) ⊎ (e ≡ BadKind) ⊎ (e ≡ BadBody)

-- these octets are at a place of a block
abbrev pub StandsAt : List ℕ → ℕ → List ℕ → Type 0
StandsAt block at octets =
    (at + length octets ≤ length block) × (take (length octets) (drop at block) ≡ octets)

-- a frame of so many octets after its length is whole at the front and shows no fault
abbrev pub IsWhole : List ℕ → ℕ → Type 0
IsWhole octets size =
    (LENGTH_OCTETS + size ≤ length octets) × (size ≡ stated_length octets)
    × (size ≤ MAX_BODY_OCTETS) × (is_bad_kind (slice_index octets LENGTH_OCTETS) ≡ false)
    × (fits_kind (slice_index octets LENGTH_OCTETS) size (drop HEAD_OCTETS octets) ≡ true)

abbrev pub FindsWhole : List ℕ → Result (Option ℕ) FrameFault → Type 0
FindsWhole octets (Ok None) = (fault_shown octets ≡ None) × IsShort octets
FindsWhole octets (Ok (Some size)) = IsWhole octets size × (1 ≤ size)
FindsWhole octets (Err e) = IsOfStream e × (fault_shown octets ≡ Some e)

-- what octets at the place of a frame give
abbrev pub FindsFrame : List ℕ → Result (Option (Frame × List ℕ)) FrameFault → Type 0
FindsFrame octets (Ok None) = (fault_shown octets ≡ None) × IsShort octets
FindsFrame octets (Ok (Some found)) = IsFrame found.0 × (octets ≡ frame_octets found.0 ++ found.1)
FindsFrame octets (Err e) =
    (IsOfStream e × (fault_shown octets ≡ Some e)) ⊎ (e ≡ Memory)

-- The same of a call's answer, with its rest lent.
abbrev pub Found : {B : Type 0} → (B → List ℕ) → List ℕ → Result (Option (Frame × B)) FrameFault
    → Type 0
Found now octets (Ok None) = FindsFrame octets (Ok None)
Found now octets (Ok (Some found)) = FindsFrame octets (Ok (Some (found.0, now found.1)))
Found now octets (Err e) = FindsFrame octets (Err e)

-- these frames are before the rest and were added to a list
pub record Cuts (octets rest : List ℕ) (before after : List Frame) : Type 0 where
  pub frames : List Frame
  pub added : after ≡ before ++ frames
  pub each : AllByRecursion IsFrame frames
  pub parts : octets ≡ stream_octets frames ++ rest

-- up to the octets that show the fault, or until memory was refused
abbrev pub CutsTo : FrameFault → List ℕ → List Frame → List Frame → Type 0
CutsTo e octets before after =
    (IsOfStream e
    × ((rest : List ℕ) × Cuts octets rest before after × (fault_shown rest ≡ Some e)))
    ⊎ ((e ≡ Memory) × ((frames : List Frame) × (after ≡ before ++ frames)))

-- one frame was cut off the front, or the octets are short, or show a fault
abbrev pub CutsOne : {B : Type 0} → (B → List ℕ) → List ℕ → List Frame → List Frame
    → Result (Option B) FrameFault → Type 0
CutsOne now octets before after (Ok None) =
    (after ≡ before) × (fault_shown octets ≡ None) × IsShort octets
CutsOne now octets before after (Ok (Some rest)) =
    Cuts octets (now rest) before after × (length (now rest) < length octets)
CutsOne now octets before after (Err e) = CutsTo e octets before after

-- whether a stream showed a fault
abbrev pub shows_fault : Result Unit FrameFault → Bool
shows_fault (Ok _) = false
shows_fault (Err BadLength) = true
shows_fault (Err BadKind) = true
shows_fault (Err BadBody) = true
shows_fault (Err Failed) = true
shows_fault (Err Memory) = false

-- What is left of a block once its frames were cut off and added to a list: its rest, if that shows
-- no fault; nothing, if it does; and the octets that were held before, if memory was refused, and
-- then no frame was added.
abbrev pub LeavesOf : List ℕ → ℕ → List Frame → List Frame → List ℕ → Result Unit FrameFault
    → Type 0
LeavesOf block held before after left (Ok _) =
    Cuts block left before after × (fault_shown left ≡ None) × IsShort left
LeavesOf block held before after left (Err Memory) =
    (left ≡ take held block) × (after ≡ before)
LeavesOf block held before after left (Err e) =
    IsOfStream e × (left ≡ [])
    × ((rest : List ℕ) × Cuts block rest before after × (fault_shown rest ≡ Some e))

module _ (old new : ReaderValue) (piece : List ℕ) (before after : List Frame) where
  -- the piece was taken, and no fault shows
  pub record FedWhole : Type 0 where
    pub sound : old.failed ≡ false
    pub cut : Cuts (old.rest ++ piece) new.rest before after
    pub none : fault_shown new.rest ≡ None
    pub short : IsShort new.rest
    pub still_sound : new.failed ≡ false

  -- the piece was taken up to a fault that it shows
  pub record FedFault (fault : FrameFault) : Type 0 where
    pub rest : List ℕ
    pub sound : old.failed ≡ false
    pub cut : Cuts (old.rest ++ piece) rest before after
    pub shown : fault_shown rest ≡ Some fault
    pub over : new ≡ record { rest = []; failed = true }

  -- nothing was taken
  pub record FedNothing (failed : Bool) : Type 0 where
    pub was : old.failed ≡ failed
    pub same : new ≡ old
    pub none : after ≡ before

  abbrev pub Feeds : Result Unit FrameFault → Type 0
  Feeds (Ok _) = FedWhole
  Feeds (Err BadLength) = FedFault BadLength
  Feeds (Err BadKind) = FedFault BadKind
  Feeds (Err BadBody) = FedFault BadBody
  Feeds (Err Failed) = FedNothing true
  Feeds (Err Memory) = FedNothing false
