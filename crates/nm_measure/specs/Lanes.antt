-- The tags of packets that are on links or wait at interfaces.
use Rattle.std.specs.Prelude.{◌≡◌, ℕ, ◌+◌, ◌<◌, if◌then◌else◌, List, [], ◌∷◌, ◌++◌, drop, map, length, sum_by, slice_get, Option, None, Some}
use Rattle.nm_forward.specs.State.{NodeStateValue}
use Rattle.nm_model.specs.Lists.{set_at}
use Rattle.nm_model.specs.Port.{waiting_of}
use Rattle.nm_model.specs.Run.{State}
use Rattle.nm_model.specs.declared.offering.Offering.{Offering}
use Rattle.nm_model.specs.declared.offering.Offering.TheVariants.{Nothing, Started, Waits, Dropped}
use Rattle.nm_sim.specs.Network.{net_of}
use Rattle.nm_topology.specs.TopologyValue.{TopologyValue}
use Rattle.nm_measure.specs.declared.flow_counts.FlowCounts.{FlowCounts}
use Rattle.nm_measure.specs.declared.flow_times.FlowTimes.{FlowTimes}
use Rattle.nm_measure.specs.declared.courses.EndPlace.TheVariants.{Node}
use Rattle.nm_measure.specs.declared.courses.Reason.{Reason}
use Rattle.nm_measure.specs.declared.courses.Reason.TheVariants.{NoRoom}
use Rattle.nm_measure.specs.declared.flow_counts.PacketOutcome.{PacketOutcome}
use Rattle.nm_measure.specs.declared.flow_counts.PacketOutcome.TheVariants as ended
use Rattle.nm_measure.specs.declared.flows.Arrival.{Arrival}
use Rattle.nm_measure.specs.declared.lane.Lane.{Lane}
use Rattle.nm_measure.specs.declared.tag.Tag.{Tag}
use Rattle.nm_measure.specs.declared.watched.Watched.{Watched}
use Rattle.nm_measure.specs.Counted.{AreFlows, counts_for}
use Rattle.nm_measure.specs.Ways.{WayEnd, ends_in, tagged_list}

-- of each interface: the packets on the link that it sends on, from the start of their transmission
-- to their arrival, and those that wait

-- in this state of the run over packets with tags
abbrev pub lanes_in : TopologyValue → State (Tag × List ℕ) NodeStateValue → ℕ → List Tag × List Tag
lanes_in t s i = (
  map (λ m. m.1.0) (drop (s.arrived ((net_of t).far_end i)) (s.sent ((net_of t).far_end i))),
  map (λ x. x.0) (waiting_of (s.port i).busy),
)

-- a packet starts at interface i, or waits there
abbrev pub with_start : ℕ → Tag → (ℕ → List Tag × List Tag) → ℕ → List Tag × List Tag
with_start i tag all = set_at all i ((all i).0 ++ tag ∷ [], (all i).1)

abbrev pub with_wait : ℕ → Tag → (ℕ → List Tag × List Tag) → ℕ → List Tag × List Tag
with_wait i tag all = set_at all i ((all i).0, (all i).1 ++ tag ∷ [])

-- what is sent becomes this
abbrev pub with_offer : Offering → Tag → (ℕ → List Tag × List Tag) → ℕ → List Tag × List Tag
with_offer Nothing tag all = all
with_offer (Started i) tag all = with_start i tag all
with_offer (Waits i) tag all = with_wait i tag all
with_offer (Dropped i) tag all = all

-- a lane has these tags
pub record IsLane (tags : List Tag × List Tag) (lane : Lane) : Type 0 where
  pub line : lane.line.items ≡ tags.0 ++ tags.1
  pub waiting : lane.waiting ≡ length tags.1

-- how many of these are packets that source j made
abbrev pub one_of : ℕ → Tag → ℕ
one_of j tag = if counts_for j tag then 1 else 0

abbrev pub own_among : ℕ → List Tag → ℕ
own_among j tags = sum_by (one_of j) tags

abbrev pub own_in : ℕ → List Lane → ℕ
own_in j lanes = sum_by (λ lane. own_among j lane.line.items) lanes

-- What was seen: so many interfaces have these lanes, these ways ended, and all packets of sources
-- that are in the lanes or in hand are under way.
pub record AreWatched (count : ℕ) (all : ℕ → List Tag × List Tag) (hand : List Tag)
    (ends : List WayEnd) (lanes : List Lane) (counts : List FlowCounts) (times : List FlowTimes)
    : Type 0 where
  pub all_there : length lanes ≡ count
  pub each : (i : ℕ) (x : Lane) → slice_get lanes i ≡ Some x → IsLane (all i) x
  pub numbers : AreFlows ends (λ j. own_among j hand + own_in j lanes) counts times

abbrev pub Watches : ℕ → (ℕ → List Tag × List Tag) → List Tag → List WayEnd → Watched → Type 0
Watches count all hand ends w =
    AreWatched count all hand ends w.lanes.items w.flows.counts.items w.flows.times.items

-- an offer may become this: a packet starts only where none waits
abbrev pub CanBe : ℕ → (ℕ → List Tag × List Tag) → Offering → Type 0
CanBe count all Nothing = Unit {0}
CanBe count all (Started i) = (i < count) × ((all i).1 ≡ [])
CanBe count all (Waits i) = i < count
CanBe count all (Dropped i) = i < count

-- these are ends of this packet
abbrev pub IsDropOf : Tag → (ℕ → WayEnd) → Type 0
IsDropOf tag end = (i : ℕ) → ((end i).tag ≡ tag) × ((end i).outcome ≡ ended.Dropped)
    × ((end i).reason ≡ NoRoom)

-- of one that came to a node
abbrev pub IsEndOf : Tag → Reason → Arrival → (PacketOutcome → WayEnd) → Type 0
IsEndOf tag reason arrival end = (o : PacketOutcome) → ((end o).tag ≡ tag) × ((end o).outcome ≡ o)
    × ((end o).time ≡ arrival.now) × ((end o).octets ≡ arrival.octets)
    × ((end o).reason ≡ reason) × ((end o).place ≡ Node arrival.node)

-- a packet whose way does not end stays in hand
abbrev pub left_in_hand : Option PacketOutcome → Tag → List Tag
left_in_hand None tag = tag ∷ []
left_in_hand (Some outcome) tag = []

-- after n events of the one event list
abbrev pub WatchesRun : TopologyValue → ℕ → Watched → Type 0
WatchesRun t n w =
    Watches (length t.ifaces) (lanes_in t (tagged_list t n)) [] (ends_in t n) w
