-- The rows of interfaces in a step.
use Rattle.std.specs.Prelude.{◌≡◌, ℕ, zero, suc, ◌-◌, ◌*◌, ◌/◌, ◌^◌, ◌<◌, min, List, [], ◌∷◌, ◌++◌, length, slice_get, Some, codes, decimal}
use Rattle.nm_base.specs.Count.{saturated}
use Rattle.nm_forward.specs.State.{NodeStateValue}
use Rattle.nm_model.specs.Before.{IsBefore}
use Rattle.nm_model.specs.Run.{State, one_list}
use Rattle.nm_topology.specs.PartValues.{IfaceValue}
use Rattle.nm_topology.specs.TopologyValue.{TopologyValue}
use Rattle.nm_sim.specs.Network.{net_of}
use Rattle.nm_measure.specs.Drops.{drops_of}
use Rattle.nm_sim.specs.Traffic.{iface_traffic_of}
use Rattle.nm_measure.specs.Busy.{busy_before, thousandths_of}
use Rattle.nm_measure.specs.Measured.{HasRecent, MeasuredValue}
use Rattle.nm_measure.specs.Queues.{in_octets, in_packets, longest_queue, waited_before}
use Rattle.nm_sim.specs.declared.traffic.IfaceTraffic.{IfaceTraffic}
use Rattle.nm_measure.specs.declared.totals.IfaceTotals.{IfaceTotals}
use Rattle.nm_series.specs.declared.iface_rows.IfaceSeen.{IfaceSeen}

-- what an interface had up to a time: its traffic, and how many packets were dropped at its queue
pub record Had : Type 0 where
  pub traffic : IfaceTraffic
  pub dropped : ℕ

-- in this state of the run
abbrev pub had : ℕ → State (List ℕ) NodeStateValue → Had
had i s = record { traffic = iface_traffic_of i s.records; dropped = drops_of i s }

-- each interface's, by number
pub record AreTotals (t : TopologyValue) (s : State (List ℕ) NodeStateValue)
    (all : List IfaceTotals) : Type 0 where
  pub count : length all ≡ length t.ifaces
  pub each : (i : ℕ) (x : IfaceTotals) → slice_get all i ≡ Some x
      → (x.traffic ≡ (had i s).traffic) × (x.dropped ≡ (had i s).dropped)

-- for how many nanoseconds packets, or octets, waited at interface i before a time with so many
-- events before it, all together; it stops at the greatest of its type
abbrev pub waited_by : (amount : List (List ℕ) → ℕ) → TopologyValue → (i time events : ℕ) → ℕ
waited_by amount t i time events =
    min (waited_before (net_of t) amount i time events) (2 ^ 128 - 1)

-- and for how many it transmitted
abbrev pub busy_by : TopologyValue → (i time events : ℕ) → ℕ
busy_by t i time events = busy_before (net_of t) i time (one_list (net_of t) events).records

-- each interface's before a time of the run: in the one event list after all events that are before
-- it
pub record HadIfaces (t : TopologyValue) (time : ℕ) (all : List IfaceTotals) : Type 0 where
  pub events : ℕ
  pub over : IsBefore (net_of t) time events
  pub totals : AreTotals t (one_list (net_of t) events) all
  pub over_time : (i : ℕ) (x : IfaceTotals) → slice_get all i ≡ Some x
      → (x.waited ≡ waited_by in_packets t i time events)
      × (x.octets_waited ≡ waited_by in_octets t i time events)
      × (x.busy ≡ busy_by t i time events)

-- how many waited in the mean in so many nanoseconds, rounded down, if all waited for so many
-- together; 0 in no time
abbrev pub mean_in : (waited time : ℕ) → ℕ
mean_in waited zero = 0
mean_in waited (suc n) = waited / suc n

-- in thousandths, if they waited for so many before and after; both products and quotients stop at
-- the greatest of their types
abbrev pub mean_between : (before after time : ℕ) → ℕ
mean_between before after time =
    saturated (mean_in (min ((after - before) * 1000) (2 ^ 128 - 1)) time)

-- and in whole ones
abbrev pub whole_mean_between : (before after time : ℕ) → ℕ
whole_mean_between before after time = saturated (mean_in (after - before) time)

-- What was seen of interface i in a step from a time to a time, with so many events before each:
-- the most packets, and octets, that waited at one time, how many of them waited in the mean over
-- time, the packets in thousandths, and the share of the time in which it transmitted, in
-- thousandths. Means and the share are rounded down.
pub record IsSeenIn (t : TopologyValue) (from until before after i : ℕ) (x : IfaceSeen)
    : Type 0 where
  pub longest : x.longest ≡ longest_queue (net_of t) in_packets i before after
  pub longest_octets : x.longest_octets ≡ longest_queue (net_of t) in_octets i before after
  pub mean : x.mean
      ≡ mean_between (waited_by in_packets t i from before) (waited_by in_packets t i until after)
      (until - from)
  pub mean_octets : x.mean_octets
      ≡ whole_mean_between (waited_by in_octets t i from before)
      (waited_by in_octets t i until after) (until - from)
  pub busy : x.busy
      ≡ thousandths_of (busy_by t i until after - busy_by t i from before) (until - from)

-- the same, by what the interfaces had before and after
pub record AreSeenBetween (m : MeasuredValue) (before after : List IfaceTotals) (time : ℕ)
    (seen : List IfaceSeen) : Type 0 where
  pub longest : (t : TopologyValue) (first i : ℕ) (x : IfaceSeen) → HasRecent t first m
      → i < length t.ifaces → slice_get seen i ≡ Some x
      → (x.longest ≡ longest_queue (net_of t) in_packets i first m.part.steps)
      × (x.longest_octets ≡ longest_queue (net_of t) in_octets i first m.part.steps)
  pub over_time : (i : ℕ) (x : IfaceSeen) (b a : IfaceTotals) → slice_get seen i ≡ Some x
      → slice_get before i ≡ Some b → slice_get after i ≡ Some a
      → (x.mean ≡ mean_between b.waited a.waited time)
      × (x.mean_octets ≡ whole_mean_between b.octets_waited a.octets_waited time)
      × (x.busy ≡ thousandths_of (a.busy - b.busy) time)

-- a value behind others
abbrev pub cell : ℕ → List ℕ
cell n = codes "," ++ decimal n

-- what came, went and was dropped between
abbrev pub counts_text : (before after : Had) → List ℕ
counts_text before after =
    cell (after.traffic.came.packets - before.traffic.came.packets)
    ++ cell (after.traffic.came.octets - before.traffic.came.octets)
    ++ cell (after.traffic.went.packets - before.traffic.went.packets)
    ++ cell (after.traffic.went.octets - before.traffic.went.octets)
    ++ cell (after.dropped - before.dropped)

abbrev pub seen_text : IfaceSeen → List ℕ
seen_text seen =
    cell seen.longest ++ cell seen.mean ++ cell seen.longest_octets ++ cell seen.mean_octets
    ++ cell seen.busy

-- the row of an interface in the step from this time on
abbrev pub iface_row : (from : ℕ) (name : List ℕ) (before after : Had) → IfaceSeen → List ℕ
iface_row from name before after seen =
    decimal from ++ codes "," ++ name ++ counts_text before after ++ seen_text seen ++ codes "\n"

-- the rows of interfaces from number n on, as far as what was seen of them goes; the state was
-- `old` before the step and is `new` after it
abbrev pub rows_of : (from : ℕ) (old new : State (List ℕ) NodeStateValue) → ℕ → List IfaceValue
    → List IfaceSeen → List ℕ
rows_of from old new n [] seen = []
rows_of from old new n (i ∷ ifaces) [] = []
rows_of from old new n (i ∷ ifaces) (x ∷ seen) =
    iface_row from i.name (had n old) (had n new) x ++ rows_of from old new (suc n) ifaces seen

-- the rows of a step: what each interface had more in the one event list before its end than before
-- its begin, and what was seen of it between
pub record IsIfaceStep (t : TopologyValue) (from until : ℕ) (text : List ℕ) : Type 0 where
  pub before : ℕ
  pub after : ℕ
  pub begins : IsBefore (net_of t) from before
  pub ends : IsBefore (net_of t) until after
  pub seen : List IfaceSeen
  pub all : length seen ≡ length t.ifaces
  pub each : (i : ℕ) (x : IfaceSeen) → slice_get seen i ≡ Some x
      → IsSeenIn t from until before after i x
  pub rows : text ≡ rows_of from (one_list (net_of t) before)
      (one_list (net_of t) after) 0 t.ifaces seen
