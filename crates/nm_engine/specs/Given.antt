-- What links have given: counts, and which messages.
use Rattle.std.specs.Prelude.{◌≡◌, ◌⊎◌, ℕ, ◌+◌, ◌-◌, ◌==◌, if◌then◌else◌, List, [], ◌∷◌, ◌++◌, max, min, position, slice_index_or, slice_set, Option, Some, None}
use Rattle.std.specs.List.{sum_by}
use Rattle.nm_base.specs.Count.{saturated}
use Rattle.nm_frames.specs.declared.frame.Frame.{Frame}
use Rattle.nm_frames.specs.declared.frame.Frame.TheVariants.{Hello, Data, Null, Have, Bye}
use Rattle.nm_engine.specs.declared.given.GivenCounts.{GivenCounts}
use Rattle.nm_engine.specs.declared.given.MessageRange.{MessageRange}

-- how many messages two ranges have in common: none if they are of two channels
abbrev pub common_of : (range other : MessageRange) → ℕ
common_of range other =
    if range.channel == other.channel
    then min range.next other.next - max range.first other.first
    else 0

-- how many a range has in common with others
abbrev pub common_with : MessageRange → List MessageRange → ℕ
common_with range others = sum_by (common_of range) others

-- how many some ranges have in common with others
abbrev pub common_between : (ranges others : List MessageRange) → ℕ
common_between ranges others = sum_by (λ range. common_with range others) ranges

-- the least range that holds both of these, which are of the same channel
abbrev pub widened : MessageRange → MessageRange → MessageRange
widened range more =
    record range { first = min range.first more.first; next = max range.next more.next }

-- some ranges with one more, which widens that of its channel, or comes last if there is none
abbrev pub with_range : List MessageRange → MessageRange → Option ℕ → List MessageRange
with_range ranges more None = ranges ++ more ∷ []
with_range ranges more (Some n) = slice_set ranges n (widened (slice_index_or ranges n more) more)

-- the place of a channel's range among others
abbrev pub place_of : ℕ → List MessageRange → Option ℕ
place_of channel ranges = position (λ range. range.channel == channel) ranges

-- a range is noted, or memory was refused for one more
abbrev pub NotesRange : (old new : List MessageRange) → MessageRange → Type 0
NotesRange old new more =
    (new ≡ with_range old more (place_of more.channel old))
    ⊎ ((place_of more.channel old ≡ None) × (new ≡ old))

-- these ranges are noted, one after another
abbrev pub NotesAll : (old new : List MessageRange) → List MessageRange → Type 0
NotesAll old new [] = new ≡ old
NotesAll old new (more ∷ rest) =
    (mid : List MessageRange) × NotesRange old mid more × NotesAll mid new rest

-- how many messages and null messages were given, with one frame more
abbrev pub given_with : GivenCounts → Frame → GivenCounts
given_with counts (Data message) = record counts { messages = saturated (counts.messages + 1) }
given_with counts (Null promise) = record counts { nulls = saturated (counts.nulls + 1) }
given_with counts (Hello hello) = counts
given_with counts (Have cursor) = counts
given_with counts Bye = counts
