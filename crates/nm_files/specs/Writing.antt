-- What a call that writes to a sink did, and what a call that writes on in a trace file did.
use Rattle.std.specs.Prelude.{◌≡◌, ℕ, ◌≤◌, List, take, length, false, Result, Ok, Err}
use Rattle.nm_base.specs.Sink.{HasNotFailed, HasTaken, SinkSeen, WroteAll, WrotePrefix}
use Rattle.nm_base.specs.declared.fault.Fault.{Fault}
use Rattle.nm_base.specs.declared.fault.Fault.TheVariants.{Refused, Memory}
use Rattle.nm_base.specs.declared.sink.SinkFault.{SinkFault}
use Rattle.nm_pcap.specs.declared.writer.PcapFault.{PcapFault}
use Rattle.nm_pcap.specs.Writer.{Writer}

-- why a trace file was not written to its end: its sink failed, or memory was refused
abbrev pub TraceFault : Type 0
TraceFault = Fault SinkFault

module _ (old new : SinkSeen) where
  -- the sink took a part of the octets, from the front, and did not fail
  pub record WrotePart (octets : List ℕ) : Type 0 where
    pub part : ℕ
    pub within : part ≤ length octets
    pub front : HasTaken old new (take part octets)
    pub no_fault : HasNotFailed old new

  abbrev pub Writes : Result Unit TraceFault → List ℕ → Type 0
  Writes (Ok _) octets = WroteAll old new octets
  Writes (Err (Refused _)) octets = WrotePrefix old new octets
  Writes (Err Memory) octets = WrotePart octets

module _ {S : Type 0} (seen : S → SinkSeen) (old new : Writer S) where
  -- all the octets were written, and the file may be written on
  pub record WroteOn (octets : List ℕ) : Type 0 where
    pub all : WroteAll (seen old.sink) (seen new.sink) octets
    pub sound : new.failed ≡ false
    pub same_form : new.form ≡ old.form

  abbrev pub WritesOn : Result Unit TraceFault → List ℕ → Type 0
  WritesOn (Ok _) octets = WroteOn octets
  WritesOn (Err (Refused _)) octets = WrotePrefix (seen old.sink) (seen new.sink) octets
  WritesOn (Err Memory) octets = WrotePart (seen old.sink) (seen new.sink) octets

-- a fault of a trace file is one of its sink
abbrev pub sink_outcome : Result Unit PcapFault → Result Unit TraceFault
sink_outcome (Ok u) = Ok u
sink_outcome (Err e) = Err (Refused (record {}))
