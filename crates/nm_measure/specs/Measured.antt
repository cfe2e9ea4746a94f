-- A network at a time of its run, with its measurements.
use Rattle.std.specs.Prelude.{◌≡◌, ◌<◌, ◌≤◌, ℕ, true, List, [], length, map, Option, None}
use Rattle.nm_base.specs.declared.limits.TheConstants.{MAX_TIME}
use Rattle.nm_base.specs.declared.wanted.Wanted.TheVariants.{Nothing}
use Rattle.nm_events.specs.Held.{Held, pending_of}
use Rattle.nm_model.specs.Before.{IsBefore}
use Rattle.nm_forward.specs.State.{NodeStateValue}
use Rattle.nm_model.specs.Run.{State, one_list, pends_before}
use Rattle.nm_topology.specs.TopologyValue.{TopologyValue}
use Rattle.nm_sim.specs.Network.{net_of}
use Rattle.nm_sim.specs.Part.{PartValue, Represents}
use Rattle.nm_measure.specs.Interfaces.{AreSeen}
use Rattle.nm_measure.specs.Sent.{AreSent}
use Rattle.nm_measure.specs.Starts.{AreStarts, start_of}
use Rattle.nm_measure.specs.declared.flow_counts.FlowCounts.{FlowCounts}
use Rattle.nm_measure.specs.declared.flow_times.FlowTimes.{FlowTimes}
use Rattle.nm_measure.specs.declared.lane.Lane.{Lane}
use Rattle.nm_measure.specs.CoursesValue.{CoursesValue}
use Rattle.nm_measure.specs.Lanes.{AreWatched, lanes_in}
use Rattle.nm_measure.specs.Ways.{ends_in, tagged_list}
use Rattle.nm_measure.specs.declared.seen.Seen.{Seen}

pub record MeasuredValue : Type 0 where
  pub part : PartValue Held
  pub seen : List Seen
  -- how many packets each source made
  pub sent : List ℕ
  -- what became of them, and where the others are
  pub counts : List FlowCounts
  pub times : List FlowTimes
  pub lanes : List Lane
  -- the ways of one source's packets, if they are followed
  pub courses : Option CoursesValue

-- no records are kept
abbrev pub KeepsNone : PartValue Held → Type 0
KeepsNone p = p.records.keeping ≡ record { wanted = Nothing; handed = 0 }

-- the whole network in this state of its run, which keeps no records
pub record IsWhole (t : TopologyValue) (s : State (List ℕ) NodeStateValue) (p : PartValue Held)
    : Type 0 where
  pub represents : Represents pending_of t None p s
  pub keeps : KeepsNone p

-- when sources began; their greatest delays are looked for since `first` events
abbrev pub HasStarts : TopologyValue → (first n : ℕ) → MeasuredValue → Type 0
HasStarts t first n m = AreStarts t first n (map start_of m.times)

-- what is seen after the events that were done; the most that waited recently, and the greatest
-- recent delays, count since `first` events
pub record HasRecent (t : TopologyValue) (first : ℕ) (m : MeasuredValue) : Type 0 where
  pub seen : AreSeen t first m.part.steps m.seen
  pub starts : HasStarts t first m.part.steps m

-- what became of the packets of sources after n events
abbrev pub HasWatched : TopologyValue → ℕ → MeasuredValue → Type 0
HasWatched t n m =
    AreWatched (length t.ifaces) (lanes_in t (tagged_list t n)) [] (ends_in t n) m.lanes m.counts m.times

-- the whole network after some events of its one event list, all of them before this time
pub record IsMeasuring (t : TopologyValue) (first until : ℕ) (m : MeasuredValue) : Type 0 where
  pub events : ℕ
  pub early : (n : ℕ) → n < events → pends_before until (one_list (net_of t) n) ≡ true
  pub whole : IsWhole t (one_list (net_of t) events) m.part
  pub steps : m.part.steps ≡ events
  pub seen : AreSeen t first events m.seen
  pub sent : AreSent t events m.sent
  pub watched : HasWatched t events m
  pub starts : HasStarts t first events m

-- the whole network after all events of its one event list that are before this time
pub record IsMeasuredBefore (t : TopologyValue) (until : ℕ) (m : MeasuredValue) : Type 0 where
  pub events : ℕ
  pub over : IsBefore (net_of t) until events
  pub represents : Represents pending_of t None m.part (one_list (net_of t) events)
  pub keeps : KeepsNone m.part
  pub within : until ≤ t.stop
  pub stops : t.stop ≤ MAX_TIME
  pub steps : m.part.steps ≡ events
  pub first : ℕ
  pub seen : AreSeen t first events m.seen
  pub sent : AreSent t events m.sent
  pub watched : HasWatched t events m
  pub starts : HasStarts t first events m

-- the same after a step that began at this time: the most that waited recently count since then
pub record IsMeasuredStep (t : TopologyValue) (from until : ℕ) (m : MeasuredValue) : Type 0 where
  pub first : ℕ
  pub begins : IsBefore (net_of t) from first
  pub measured : IsMeasuredBefore t until m
  pub recent : HasRecent t first m

-- the run is over
abbrev pub IsMeasured : TopologyValue → MeasuredValue → Type 0
IsMeasured t m = IsMeasuredBefore t t.stop m
