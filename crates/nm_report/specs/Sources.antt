-- The values of sources as comma-separated values.
use Rattle.std.specs.Prelude.{◌≡◌, ℕ, zero, suc, Bool, if◌then◌else◌, List, [], ◌∷◌, ◌++◌, codes, decimal, length, slice_get, take, Some}
use Rattle.nm_base.specs.Count.{saturated}
use Rattle.nm_sim.specs.Network.{net_of}
use Rattle.nm_measure.specs.Counted.{HasArrivals, HasEnds, delays_of, trips_of}
use Rattle.nm_measure.specs.Flows.{Balances}
use Rattle.nm_measure.specs.Sent.{sent_in}
use Rattle.nm_measure.specs.Starts.{begun_in}
use Rattle.nm_measure.specs.Ways.{ends_in}
use Rattle.nm_packet.specs.Address.{address_text}
use Rattle.nm_topology.specs.PartValues.{NodeValue}
use Rattle.nm_topology.specs.TopologyValue.{TopologyValue}
use Rattle.nm_topology.specs.declared.traffic.Source.{Source}
use Rattle.nm_measure.specs.Added.{ShowsPercentile}
use Rattle.nm_measure.specs.Rates.{rate_between}
use Rattle.nm_measure.specs.Sums.{greatest_of, jitter_of, least_of, mean_of}
use Rattle.nm_measure.specs.declared.flow_counts.FlowCounts.{FlowCounts}
use Rattle.nm_measure.specs.declared.flow_times.FlowTimes.{FlowTimes}
use Rattle.nm_topology.specs.declared.traffic.Traffic.{Traffic}
use Rattle.nm_topology.specs.declared.traffic.Traffic.TheVariants.{Cbr, Echo, Raw}
use Rattle.nm_report.specs.Values.{value_line}

-- how long packets took, of these delays: the least, percentiles, the greatest, the mean, the
-- jitter, and whether the percentiles are rounded
pub record AreTimes (ds : List ℕ) (is_rounded : Bool) (values : List ℕ) : Type 0 where
  pub half : ℕ
  pub most : ℕ
  pub nearly : ℕ
  pub all_but : ℕ
  pub fifty : ShowsPercentile ds is_rounded 500 half
  pub ninety : ShowsPercentile ds is_rounded 900 most
  pub ninety_nine : ShowsPercentile ds is_rounded 990 nearly
  pub last_thousandth : ShowsPercentile ds is_rounded 999 all_but
  pub are : values ≡ least_of ds ∷ half ∷ most ∷ nearly ∷ all_but ∷ greatest_of ds ∷ mean_of ds
      ∷ jitter_of ds ∷ (if is_rounded then 1 else 0) ∷ []

-- what became of a source's packets, how much arrived and how fast
abbrev pub count_values : FlowCounts → FlowTimes → List ℕ
count_values f x = f.sent ∷ f.delivered ∷ f.refused ∷ f.dropped ∷ f.discarded ∷ f.under_way
    ∷ x.octets ∷ rate_between x.octets x.begun x.ended ∷ []

-- the values of a source, of which these are the delays and the round trips
pub record AreMeasures (f : FlowCounts) (x : FlowTimes) (ds es : List ℕ) (values : List ℕ) : Type 0 where
  pub one_way : List ℕ
  pub round : List ℕ
  pub delays : AreTimes ds x.delays.spread.is_rounded one_way
  pub trips : AreTimes es x.round_trips.spread.is_rounded round
  pub are : values ≡ count_values f x ++ one_way ++ length es ∷ f.astray ∷ round

-- their names, in this order
abbrev pub measure_names : List (List ℕ)
measure_names = codes "sent" ∷ codes "delivered" ∷ codes "refused" ∷ codes "dropped"
    ∷ codes "discarded" ∷ codes "under_way" ∷ codes "octets" ∷ codes "rate"
    ∷ codes "least_delay" ∷ codes "delay_50" ∷ codes "delay_90" ∷ codes "delay_99"
    ∷ codes "delay_99_9" ∷ codes "greatest_delay" ∷ codes "mean_delay" ∷ codes "jitter"
    ∷ codes "delays_rounded" ∷ codes "answered" ∷ codes "astray" ∷ codes "least_round_trip"
    ∷ codes "round_trip_50" ∷ codes "round_trip_90" ∷ codes "round_trip_99"
    ∷ codes "round_trip_99_9" ∷ codes "greatest_round_trip" ∷ codes "mean_round_trip"
    ∷ codes "round_trip_jitter" ∷ codes "round_trips_rounded" ∷ []

-- a line for each measure of these names
abbrev pub source_lines : (name : List ℕ) → (measures : List (List ℕ)) → List ℕ → List ℕ
source_lines name [] values = []
source_lines name (m ∷ ms) [] = []
source_lines name (m ∷ ms) (v ∷ vs) = value_line (codes "source") name m v ++ source_lines name ms vs

-- all in one row
abbrev pub row_values : List ℕ → List ℕ
row_values [] = []
row_values (v ∷ vs) = codes "," ++ decimal v ++ row_values vs

-- how many measures of a source have lines: those of replies are left out of one that has none
abbrev pub measure_count : Traffic → ℕ
measure_count (Cbr c) = 17
measure_count (Echo e) = 28
measure_count (Raw r) = 28

-- a text says the values of a source in this form
pub record SaysMeasures (f : FlowCounts) (x : FlowTimes) (ds es : List ℕ) (said : List ℕ → List ℕ)
    (before after : List ℕ) : Type 0 where
  pub values : List ℕ
  pub are : AreMeasures f x ds es values
  pub is : after ≡ before ++ said values

-- what was measured of source j in the first n events of the one event list
pub record IsSourceMeasured (t : TopologyValue) (n j : ℕ) (f : FlowCounts) (x : FlowTimes) : Type 0 where
  pub sent : f.sent ≡ saturated (sent_in (net_of t) j n)
  pub balances : Balances f
  pub ended : HasEnds j (ends_in t n) f
  pub arrivals : HasArrivals j (ends_in t n) x
  pub begun : x.begun ≡ begun_in t j n

-- the values of source j
pub record HasMeasures (t : TopologyValue) (n j : ℕ) (values : List ℕ) : Type 0 where
  pub counts : FlowCounts
  pub times : FlowTimes
  pub is : IsSourceMeasured t n j counts times
  pub are : AreMeasures counts times (delays_of j (ends_in t n)) (trips_of j (ends_in t n)) values

-- its lines
pub record AreLinesOf (t : TopologyValue) (n j : ℕ) (s : Source) (lines : List ℕ) : Type 0 where
  pub values : List ℕ
  pub have : HasMeasures t n j values
  pub is : lines ≡ source_lines (decimal j) (take (measure_count s.traffic) measure_names) values

-- the lines of the first k sources, one behind another
abbrev pub AreSourceLines : TopologyValue → (n k : ℕ) → List ℕ → Type 0
AreSourceLines t n zero text = text ≡ []
AreSourceLines t n (suc k) text =
    (front : List ℕ) × (last : List ℕ) × AreSourceLines t n k front
    × (s : Source) × (slice_get t.sources k ≡ Some s) × AreLinesOf t n k s last
    × (text ≡ front ++ last)

-- which source it is: its number, its kind, its node, and where its packets go
abbrev pub kind_name : Traffic → List ℕ
kind_name (Cbr c) = codes "cbr"
kind_name (Echo e) = codes "echo"
kind_name (Raw r) = codes "raw"

abbrev pub destination_text : Traffic → List ℕ
destination_text (Cbr c) = address_text c.to
destination_text (Echo e) = address_text e.to
destination_text (Raw r) = codes "-"

abbrev pub source_text : (j : ℕ) → (node : List ℕ) → Source → List ℕ
source_text j node s =
    decimal j ++ codes "," ++ kind_name s.traffic ++ codes "," ++ node ++ codes ","
    ++ destination_text s.traffic

-- the names of the columns of a table with a row for each source
abbrev pub name_cells : List (List ℕ) → List ℕ
name_cells [] = []
name_cells (m ∷ ms) = codes "," ++ m ++ name_cells ms

abbrev pub row_head : List ℕ
row_head = codes "source,kind,node,to" ++ name_cells measure_names ++ codes "\n"

-- the row of source j
pub record IsRowOf (t : TopologyValue) (n j : ℕ) (row : List ℕ) : Type 0 where
  pub source : Source
  pub at : slice_get t.sources j ≡ Some source
  pub node : NodeValue
  pub here : slice_get t.nodes source.node ≡ Some node
  pub values : List ℕ
  pub have : HasMeasures t n j values
  pub is : row ≡ source_text j node.name source ++ row_values values ++ codes "\n"

-- the names of the columns, and the rows of the first k sources, one behind another
abbrev pub AreRows : TopologyValue → (n k : ℕ) → List ℕ → Type 0
AreRows t n zero text = text ≡ row_head
AreRows t n (suc k) text =
    (front : List ℕ) × (row : List ℕ) × AreRows t n k front × IsRowOf t n k row
    × (text ≡ front ++ row)
