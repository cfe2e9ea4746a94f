-- A stream: frames, and a rest that is no whole frame.
use Rattle.std.specs.Prelude.{◌≡◌, ℕ, ◌+◌, ◌<◌, ◌⊎◌, Bool, ◌||◌, ◌&&◌, ◌==◌, nat_lt, List, ◌++◌, length, take, drop, slice_index, Option, Some, None, if◌then◌else◌}
use Rattle.std.specs.Int.{w32, from_be_bytes}
use Rattle.std.specs.List.{AllByRecursion}
use Rattle.nm_base.specs.declared.limits.TheConstants.{MAX_BODY_OCTETS}
use Rattle.nm_frames.specs.declared.format.TheConstants.{BYE_OCTETS, DATA_HEADER_OCTETS, MAGIC, HAVE_OCTETS, HEAD_OCTETS, HELLO_OCTETS, LENGTH_OCTETS, NULL_OCTETS}
use Rattle.nm_frames.specs.declared.format.kind.TheConstants.{HELLO, HAVE, DATA, NULL, BYE}
use Rattle.nm_frames.specs.declared.frame.Frame.{Frame}
use Rattle.nm_frames.specs.declared.fault.FrameFault.{FrameFault}
use Rattle.nm_frames.specs.declared.fault.FrameFault.TheVariants.{BadLength, BadKind, BadBody, Failed, Memory}
use Rattle.nm_frames.specs.Frame.{IsFrame, stream_octets}

-- the length that the first octets say
abbrev pub stated_length : List ℕ → ℕ
stated_length octets = from_be_bytes w32 (take LENGTH_OCTETS octets)

-- no frame has it
abbrev pub is_bad_length : ℕ → Bool
is_bad_length size = (size == 0) || nat_lt MAX_BODY_OCTETS size

abbrev pub is_bad_kind : ℕ → Bool
is_bad_kind kind = (kind == 0) || nat_lt BYE kind

-- the fields begin with the magic octets of a Hello
abbrev pub has_magic : List ℕ → Bool
has_magic fields =
    (slice_index fields 0 == slice_index MAGIC 0)
    && (slice_index fields 1 == slice_index MAGIC 1)
    && (slice_index fields 2 == slice_index MAGIC 2)
    && (slice_index fields 3 == slice_index MAGIC 3)

-- whether a body of so many octets fits its kind, with these fields
abbrev pub fits_kind : ℕ → ℕ → List ℕ → Bool
fits_kind kind size fields =
    if kind == HELLO then (size == HELLO_OCTETS) && has_magic fields
    else if kind == HAVE then size == HAVE_OCTETS
    else if kind == DATA then nat_lt DATA_HEADER_OCTETS size
    else if kind == NULL then size == NULL_OCTETS
    else size == BYE_OCTETS

-- the fault that octets at the place of a frame show: None if they show none so far
abbrev pub fault_shown : List ℕ → Option FrameFault
fault_shown octets =
    if nat_lt (length octets) LENGTH_OCTETS then None
    else if is_bad_length (stated_length octets) then Some BadLength
    else if length octets == LENGTH_OCTETS then None
    else if is_bad_kind (slice_index octets LENGTH_OCTETS) then Some BadKind
    else if nat_lt (length octets) (LENGTH_OCTETS + stated_length octets) then None
    else if fits_kind (slice_index octets LENGTH_OCTETS) (stated_length octets)
    (drop HEAD_OCTETS octets) then None
    else Some BadBody

-- how many octets decide a fault; a stream shows no other
abbrev pub deciding_octets : FrameFault → List ℕ → ℕ
deciding_octets BadLength octets = LENGTH_OCTETS
deciding_octets BadKind octets = HEAD_OCTETS
deciding_octets BadBody octets = LENGTH_OCTETS + stated_length octets
deciding_octets Failed octets = 0
deciding_octets Memory octets = 0

-- shorter than a length, or than its length says
abbrev pub IsShort : List ℕ → Type 0
IsShort octets =
    (length octets < LENGTH_OCTETS) ⊎ (length octets < LENGTH_OCTETS + stated_length octets)

-- what follows the last whole frame of a stream: it shows a fault, or is short
abbrev pub IsRest : List ℕ → Type 0
IsRest octets =
    ((e : FrameFault) × (fault_shown octets ≡ Some e))
    ⊎ ((fault_shown octets ≡ None) × IsShort octets)

-- the stream is these frames, and then that rest
pub record Splits (stream : List ℕ) (frames : List Frame) (rest : List ℕ) : Type 0 where
  pub whole : stream ≡ stream_octets frames ++ rest
  pub each : AllByRecursion IsFrame frames
  pub ends : IsRest rest
