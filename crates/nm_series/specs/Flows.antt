-- The rows of sources in a step.
use Rattle.std.specs.Prelude.{◌≡◌, ℕ, zero, suc, ◌+◌, ◌-◌, ◌/◌, max, List, [], ◌++◌, drop, length, slice_get, Some, codes, decimal}
use Rattle.nm_base.specs.Count.{saturated}
use Rattle.nm_model.specs.Before.{IsBefore}
use Rattle.nm_topology.specs.TopologyValue.{TopologyValue}
use Rattle.nm_sim.specs.Network.{net_of}
use Rattle.nm_measure.specs.Counted.{HasTotals, delays_of, how_many, octets_delivered}
use Rattle.nm_measure.specs.Sent.{sent_in}
use Rattle.nm_measure.specs.Sums.{differences_of, greatest_of, mean_of}
use Rattle.nm_measure.specs.Ways.{ends_in}
use Rattle.nm_measure.specs.declared.flow_counts.PacketOutcome.TheVariants.{Delivered, Refused, Dropped, Discarded}
use Rattle.nm_measure.specs.declared.totals.FlowTotals.{FlowTotals}
use Rattle.nm_series.specs.Rows.{cell}

-- what became of the packets of a source up to a time
pub record FlowHad : Type 0 where
  pub sent : ℕ
  pub delivered : ℕ
  -- refused, dropped or discarded
  pub lost : ℕ
  -- of the packets that were delivered; this and `sent` stop at the greatest of their type
  pub octets : ℕ
  -- of the packets that were delivered, in the order of the arrivals
  pub delays : List ℕ

-- of source j, in the first n events of the one event list
abbrev pub flow_had : TopologyValue → (n j : ℕ) → FlowHad
flow_had t n j = record {
  sent = saturated (sent_in (net_of t) j n);
  delivered = how_many j Delivered (ends_in t n);
  lost = how_many j Refused (ends_in t n) + how_many j Dropped (ends_in t n)
      + how_many j Discarded (ends_in t n);
  octets = saturated (octets_delivered j (ends_in t n));
  delays = delays_of j (ends_in t n);
}

-- what the second list has behind as much as the first
abbrev pub behind : (before after : List ℕ) → List ℕ
behind before after = drop (length before) after

-- The row of source j in the step from this time on, and what it had before it and after it: what
-- was added, the mean and the greatest of the delays of what was delivered, and the mean of how
-- much each of these differs from that of the packet delivered before it (RFC 3393). Means are
-- rounded down, and 0 of nothing.
abbrev pub flow_row : (from j : ℕ) (before after : FlowHad) → List ℕ
flow_row from j before after =
    decimal from ++ cell j
    ++ cell (after.sent - before.sent)
    ++ cell (after.delivered - before.delivered)
    ++ cell (after.lost - before.lost)
    ++ cell (after.octets - before.octets)
    ++ cell (mean_of (behind before.delays after.delays))
    ++ cell (greatest_of (behind before.delays after.delays))
    ++ cell (mean_of (behind (differences_of before.delays) (differences_of after.delays)))
    ++ codes "\n"

-- the same by totals, with the greatest of these delays
abbrev pub added_text : (before after : FlowTotals) → List ℕ
added_text x y =
    cell (y.sent - x.sent) ++ cell (y.delivered - x.delivered) ++ cell (y.lost - x.lost)
    ++ cell (y.octets - x.octets)

abbrev pub late_text : (before after : FlowTotals) → (greatest : ℕ) → List ℕ
late_text x y greatest =
    cell (saturated ((y.delayed - x.delayed) / (y.delivered - x.delivered)))
    ++ cell greatest
    ++ cell (saturated ((y.differences - x.differences) / (y.delivered - max x.delivered 1)))

abbrev pub totals_row : (from j : ℕ) (before after : FlowTotals) (greatest : ℕ) → List ℕ
totals_row from j x y greatest =
    decimal from ++ cell j ++ added_text x y ++ late_text x y greatest ++ codes "\n"

-- the rows of the first `count` sources, with so many events before the step and after it
abbrev pub flow_rows : TopologyValue → (from before after count : ℕ) → List ℕ
flow_rows t from before after zero = []
flow_rows t from before after (suc j) =
    flow_rows t from before after j
    ++ flow_row from j (flow_had t before j) (flow_had t after j)

-- the totals of sources after n events
pub record AreFlowTotals (t : TopologyValue) (n : ℕ) (all : List FlowTotals) : Type 0 where
  pub count : length all ≡ length t.sources
  pub each : (j : ℕ) (x : FlowTotals) → slice_get all j ≡ Some x
      → (x.sent ≡ saturated (sent_in (net_of t) j n)) × HasTotals j (ends_in t n) x

-- before a time of the run: after all events that are before it
pub record HadFlows (t : TopologyValue) (time : ℕ) (all : List FlowTotals) : Type 0 where
  pub events : ℕ
  pub over : IsBefore (net_of t) time events
  pub totals : AreFlowTotals t events all

-- the rows of a step: what became of packets in the one event list before its end and not before
-- its begin
pub record IsFlowStep (t : TopologyValue) (from until : ℕ) (text : List ℕ) : Type 0 where
  pub before : ℕ
  pub after : ℕ
  pub begins : IsBefore (net_of t) from before
  pub ends : IsBefore (net_of t) until after
  pub rows : text ≡ flow_rows t from before after (length t.sources)
