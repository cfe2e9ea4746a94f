-- When sources begin, and how many delays of each there were when the greatest was begun to be
-- looked for.
use Rattle.std.specs.Prelude.{◌≡◌, ℕ, zero, suc, List, length, slice_get, slice_index_or, slice_set, Option, None, Some}
use Rattle.nm_base.specs.Count.{saturated}
use Rattle.nm_sim.specs.Network.{net_of}
use Rattle.nm_topology.specs.TopologyValue.{TopologyValue}
use Rattle.nm_measure.specs.declared.flow_times.FlowTimes.{FlowTimes}
use Rattle.nm_measure.specs.Counted.{delays_of}
use Rattle.nm_measure.specs.Delays.{AreDelays}
use Rattle.nm_measure.specs.Sent.{sent_in}
use Rattle.nm_measure.specs.Ways.{ends_in, time_of}

pub record SourceStart : Type 0 where
  -- the time of the source's first event, if it had one
  pub begun : Option ℕ
  pub seen : ℕ

abbrev pub start_of : FlowTimes → SourceStart
start_of x = record { begun = x.begun; seen = x.delays.seen }

abbrev pub nothing_begun : SourceStart
nothing_begun = record { begun = None; seen = 0 }

-- a source has an event
abbrev pub first_time : ℕ → Option ℕ → Option ℕ
first_time now None = Some now
first_time now (Some time) = Some time

abbrev pub begun_by : ℕ → SourceStart → SourceStart
begun_by now s = record { begun = first_time now s.begun; seen = s.seen }

abbrev pub with_begin : (j now : ℕ) → List SourceStart → List SourceStart
with_begin j now starts = slice_set starts j (begun_by now (slice_index_or starts j nothing_begun))

-- the time of a source's first packet, if it made so many
abbrev pub begun_of : Option (ℕ × List ℕ) → ℕ → Option ℕ
begun_of first zero = None
begun_of first (suc n) = Some (time_of first)

abbrev pub begun_in : TopologyValue → (j n : ℕ) → Option ℕ
begun_in t j n = begun_of ((net_of t).source j 0) (sent_in (net_of t) j n)

-- of each source, after n events; the greatest is looked for since `first` events
pub record AreStarts (t : TopologyValue) (first n : ℕ) (starts : List SourceStart) : Type 0 where
  pub count : length starts ≡ length t.sources
  pub each : (j : ℕ) (s : SourceStart) → slice_get starts j ≡ Some s
      → (s.begun ≡ begun_in t j n) × (s.seen ≡ saturated (length (delays_of j (ends_in t first))))

-- the greatest delays are looked for anew
pub record IsRecent (x y : FlowTimes) : Type 0 where
  pub octets : y.octets ≡ x.octets
  pub ended : y.ended ≡ x.ended
  pub begun : y.begun ≡ x.begun
  pub seen : y.delays.seen ≡ x.delays.spread.count
  pub delays : (ds : List ℕ) → AreDelays ds x.delays → AreDelays ds y.delays
  pub trips : y.round_trips ≡ x.round_trips
