-- What contracts see of the sinks.
use Rattle.std.specs.Prelude.{◌≡◌, ℕ, ◌+◌, ◌<◌, List, Option, length, take}
use Rattle.std.specs.Io.KnownBytes.{Appends}

-- what is seen of a sink
pub record SinkSeen : Type 0 where
  -- the octets that it took so far, if they are known
  pub taken : Option (List ℕ)
  -- how often it has failed
  pub failures : ℕ

-- between two moments a sink took these octets, which are behind those before, if they are known
abbrev pub HasTaken : (old new : SinkSeen) → List ℕ → Type 0
HasTaken old new octets = Appends old.taken new.taken octets

-- it did not fail
abbrev pub HasNotFailed : (old new : SinkSeen) → Type 0
HasNotFailed old new = new.failures ≡ old.failures

-- it failed once
abbrev pub HasFailedOnce : (old new : SinkSeen) → Type 0
HasFailedOnce old new = new.failures ≡ old.failures + 1

module _ (old new : SinkSeen) where
  -- all the octets were taken
  pub record WroteAll (octets : List ℕ) : Type 0 where
    pub whole : HasTaken old new octets
    pub no_fault : HasNotFailed old new

  -- the sink failed when it had taken a part of the octets, from the front
  pub record WrotePrefix (octets : List ℕ) : Type 0 where
    pub part : ℕ
    pub short : part < length octets
    pub front : HasTaken old new (take part octets)
    pub fault : HasFailedOnce old new

-- a sink over a writer: the writer, and how often it has failed
pub record WriterSink (W : Type 0) : Type 0 where
  pub writer : W
  pub failures : ℕ

-- a sink in memory: the octets that it took, how many it would still take, and how often it has
-- failed
pub record MemorySink : Type 0 where
  pub octets : List ℕ
  pub room : ℕ
  pub failures : ℕ
