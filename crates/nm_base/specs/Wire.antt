-- What one call of a wire did, by its answer; and what contracts see of a wire in memory.
use Rattle.std.specs.Prelude.{◌≡◌, ℕ, ◌+◌, ◌-◌, ◌≤◌, if◌then◌else◌, nat_lt, min, List, [], ◌∷◌, ◌++◌, length, take, drop}
use Rattle.nm_base.specs.declared.wire.Read.{Read}
use Rattle.nm_base.specs.declared.wire.Read.TheVariants as read
use Rattle.nm_base.specs.declared.wire.Written.{Written}
use Rattle.nm_base.specs.declared.wire.Written.TheVariants as written
use Rattle.nm_base.specs.declared.mem_wire.Ending.{Ending}
use Rattle.nm_base.specs.declared.mem_wire.Ending.TheVariants as ending
use Rattle.nm_base.specs.declared.mem_wire.ScriptedRead.{ScriptedRead}
use Rattle.nm_base.specs.declared.mem_wire.ScriptedRead.TheVariants.{Gives, Answers}
use Rattle.nm_base.specs.declared.mem_wire.ScriptedWrite.{ScriptedWrite}
use Rattle.nm_base.specs.declared.mem_wire.ScriptedWrite.TheVariants as scripted

-- what is seen of a wire
pub record WireSeen : Type 0 where
  -- the octets that it gave so far, and those that it took
  pub given : List ℕ
  pub taken : List ℕ
  -- how often a read found that the other side sends no more
  pub ends : ℕ
  -- how often it has failed
  pub failures : ℕ

-- one of its two ways: the octets that it gave, or those that it took
module _ (way : WireSeen → List ℕ) (old new : WireSeen) where
  -- nothing went this way, and nothing failed
  abbrev pub IsStill : Type 0
  IsStill = (way new ≡ way old) × (new.failures ≡ old.failures)

  -- nothing went this way, since the wire failed
  abbrev pub HasFailed : Type 0
  HasFailed = (way new ≡ way old) × (new.failures ≡ old.failures + 1)

  -- the first n of these went this way, at least one
  abbrev pub Goes : ℕ → List ℕ → Type 0
  Goes n octets =
      (1 ≤ n) × (n ≤ length octets) × (way new ≡ way old ++ take n octets)
      × (new.failures ≡ old.failures)

module _ (old new : WireSeen) where
  -- a write of these octets
  abbrev pub WriteDoes : Written → List ℕ → Type 0
  WriteDoes (written.Took n) octets = Goes (λ w. w.taken) old new n octets
  WriteDoes written.Later octets = IsStill (λ w. w.taken) old new
  WriteDoes written.Fault octets = HasFailed (λ w. w.taken) old new

  -- a read into this buffer, as it is afterwards, and whether the other side had ended
  abbrev pub ReadDoes : Read → List ℕ → Type 0
  ReadDoes (read.Got n) buffer = Goes (λ w. w.given) old new n buffer × (new.ends ≡ old.ends)
  ReadDoes read.End buffer = IsStill (λ w. w.given) old new × (new.ends ≡ old.ends + 1)
  ReadDoes read.Later buffer = IsStill (λ w. w.given) old new × (new.ends ≡ old.ends)
  ReadDoes read.Fault buffer = HasFailed (λ w. w.given) old new × (new.ends ≡ old.ends)

-- what contracts see of a wire in memory
pub record MemoryWire : Type 0 where
  -- what the next reads and writes do
  pub reads : List ScriptedRead
  pub writes : List ScriptedWrite
  -- the octets that it has for its reader, and how many of them it gave
  pub source : List ℕ
  pub at : ℕ
  -- what a read answers once all are given
  pub ending : Ending
  -- the octets that it took, and how many more it would take
  pub taken : List ℕ
  pub room : ℕ
  -- the most octets that a call past the script moves
  pub piece : ℕ
  -- how often a read found the end, and how often it has failed
  pub ends : ℕ
  pub failures : ℕ

-- as a wire it gave the first of those octets
abbrev pub memory_seen : MemoryWire → WireSeen
memory_seen w = record {
  given = take w.at w.source;
  taken = w.taken;
  ends = w.ends;
  failures = w.failures;
}

-- a buffer once these octets were copied to its front
abbrev pub after_copy : List ℕ → List ℕ → List ℕ
after_copy octets buffer = octets ++ drop (length octets) buffer

abbrev pub first_or : {X : Type 0} → X → List X → X
first_or d [] = d
first_or d (x ∷ xs) = x

-- what the next read and the next write do: the script's step, and past it a piece moves
abbrev pub next_read : MemoryWire → ScriptedRead
next_read w = first_or (Gives w.piece) w.reads

abbrev pub next_write : MemoryWire → ScriptedWrite
next_write w = first_or (scripted.Takes w.piece) w.writes

-- the most octets that these move
abbrev pub most_given : ScriptedRead → ℕ
most_given (Gives n) = n
most_given (Answers e) = 0

abbrev pub most_taken : ScriptedWrite → ℕ
most_taken (scripted.Takes n) = n
most_taken scripted.Later = 0
most_taken scripted.Fault = 0

-- how many octets a read into a buffer of this length moves
abbrev pub read_count : MemoryWire → ℕ → ℕ
read_count w buffer = min (min (length w.source - w.at) (most_given (next_read w))) buffer

-- how many octets a write of so many moves
abbrev pub write_count : MemoryWire → ℕ → ℕ
write_count w octets = min (min w.room (most_taken (next_write w))) octets

-- how a read ends that moves none, on a wire that ends so once all is given
abbrev pub read_ending : Ending → ScriptedRead → Ending
read_ending e (Gives n) = e
read_ending e (Answers said) = said

abbrev pub ending_answer : Ending → Read
ending_answer ending.End = read.End
ending_answer ending.Later = read.Later
ending_answer ending.Fault = read.Fault

-- the ends and the failures that such a read adds
abbrev pub ending_ends : Ending → ℕ
ending_ends ending.End = 1
ending_ends ending.Later = 0
ending_ends ending.Fault = 0

abbrev pub ending_failures : Ending → ℕ
ending_failures ending.End = 0
ending_failures ending.Later = 0
ending_failures ending.Fault = 1

-- what a write answers that moves none, and the failures that it adds
abbrev pub write_refusal : ScriptedWrite → Written
write_refusal (scripted.Takes n) = written.Fault
write_refusal scripted.Later = written.Later
write_refusal scripted.Fault = written.Fault

abbrev pub refusal_failures : ScriptedWrite → ℕ
refusal_failures (scripted.Takes n) = 1
refusal_failures scripted.Later = 0
refusal_failures scripted.Fault = 1

-- the answer of a read, and of a write, that moves n octets
abbrev pub read_answer : MemoryWire → ℕ → Read
read_answer w n =
    if nat_lt 0 n then read.Got n else ending_answer (read_ending w.ending (next_read w))

abbrev pub write_answer : MemoryWire → ℕ → Written
write_answer w n = if nat_lt 0 n then written.Took n else write_refusal (next_write w)

-- the wire after a read that moves n octets
abbrev pub after_read : MemoryWire → ℕ → MemoryWire
after_read w n =
    if nat_lt 0 n then record w { reads = drop 1 w.reads; at = w.at + n }
    else record w {
      reads = drop 1 w.reads;
      ends = w.ends + ending_ends (read_ending w.ending (next_read w));
      failures = w.failures + ending_failures (read_ending w.ending (next_read w));
    }

-- the wire after a write of these octets that moves n of them
abbrev pub after_write : MemoryWire → List ℕ → ℕ → MemoryWire
after_write w octets n =
    if nat_lt 0 n then record w {
      writes = drop 1 w.writes;
      taken = w.taken ++ take n octets;
      room = w.room - n;
    }
    else record w {
      writes = drop 1 w.writes;
      failures = w.failures + refusal_failures (next_write w);
    }
