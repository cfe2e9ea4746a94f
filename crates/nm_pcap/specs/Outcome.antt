-- What a call that writes to a trace file did.
use Rattle.std.specs.Prelude.{◌≡◌, ℕ, ◌+◌, ◌<◌, take, length, List, [], ◌∷◌, ◌++◌, true, false, Result, Ok, Err}
use Rattle.nm_base.specs.Sink.{HasFailedOnce, HasNotFailed, HasTaken, SinkSeen}
use Rattle.nm_base.specs.Count.{saturated}
use Rattle.nm_base.specs.declared.record.Record.{Record}
use Rattle.nm_pcap.specs.declared.writer.PcapFault.{PcapFault}
use Rattle.nm_pcap.specs.declared.writer.PcapFault.TheVariants.{File, Failed}
use Rattle.nm_pcap.specs.Format.{file_header, record_octets}
use Rattle.nm_pcap.specs.Writer.{Writer}
use Rattle.nm_pcap.specs.Writing.{written}

module _ {W : Type 0} (seen : W → SinkSeen) (old new : Writer W) where
  -- all the octets were written
  pub record AddedAll (octets : List ℕ) : Type 0 where
    pub sound : old.failed ≡ false
    pub whole : HasTaken (seen old.sink) (seen new.sink) octets
    pub no_fault : HasNotFailed (seen old.sink) (seen new.sink)
    pub count : new.written ≡ saturated (old.written + length octets)
    pub still_sound : new.failed ≡ false
    pub same_form : new.form ≡ old.form

  -- the sink failed in this call, when it had taken a part of the octets, from the front
  pub record AddedPart (octets : List ℕ) (written : ℕ) : Type 0 where
    pub sound : old.failed ≡ false
    pub part : ℕ
    pub short : part < length octets
    pub front : HasTaken (seen old.sink) (seen new.sink) (take part octets)
    pub fault : HasFailedOnce (seen old.sink) (seen new.sink)
    pub count : new.written ≡ saturated (old.written + part)
    pub told : written ≡ new.written
    pub over : new.failed ≡ true
    pub same_form : new.form ≡ old.form

  -- the sink had failed before, and nothing was written
  pub record AddedNothing : Type 0 where
    pub over : old.failed ≡ true
    pub same : new ≡ old

  abbrev pub Adds : Result Unit PcapFault → List ℕ → Type 0
  Adds (Ok _) octets = AddedAll octets
  Adds (Err (File n)) octets = AddedPart octets n
  Adds (Err Failed) octets = AddedNothing

  -- what a file holds: so many octets from the front of these, and all of them as long as the
  -- sink has not failed
  pub record HoldsPrefix (octets : List ℕ) : Type 0 where
    pub front : List ℕ
    pub rest : List ℕ
    pub parts : front ++ rest ≡ octets
    pub held : HasTaken (seen old.sink) (seen new.sink) front
    pub all : new.failed ≡ false → rest ≡ []

-- records were put one after another, each call with its answer
abbrev pub Puts : {W : Type 0} → (W → SinkSeen) → Writer W
    → List (Record (List ℕ) × Result Unit PcapFault) → Writer W → Type 0
Puts seen old [] new = new ≡ old
Puts {W = W} seen old (p ∷ ps) new =
    (mid : Writer W) × Adds seen old mid p.1 (written old.form (record_octets p.0))
    × Puts seen mid ps new

-- a file was started, and records were put, each call with its answer
pub record StartsAndPuts {W : Type 0} (seen : W → SinkSeen) (fresh new : Writer W)
    (puts : List (Record (List ℕ) × Result Unit PcapFault)) : Type 0 where
  pub started : Writer W
  pub first : Result Unit PcapFault
  pub starts : Adds seen fresh started first (written fresh.form file_header)
  pub puts_on : Puts seen started puts new
