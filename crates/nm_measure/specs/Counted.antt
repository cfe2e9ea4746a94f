-- The numbers of sources, by the ends of their packets' ways.
use Rattle.std.specs.Prelude.{◌≡◌, ℕ, ◌+◌, ◌-◌, ◌<◌, ◌^◌, ◌==◌, ◌&&◌, not, Bool, true, false, List, map, length, count_by, sum_by, slice_get, Some}
use Rattle.nm_base.specs.Count.{saturated}
use Rattle.nm_model.specs.Lists.{keep_where}
use Rattle.nm_forward.specs.Counter.{counter_number}
use Rattle.nm_forward.specs.declared.counter.Counter.TheVariants.{Icmp}
use Rattle.nm_measure.specs.declared.courses.EndPlace.{EndPlace}
use Rattle.nm_measure.specs.declared.courses.EndPlace.TheVariants.{Iface, Node}
use Rattle.nm_measure.specs.declared.courses.Reason.{Reason}
use Rattle.nm_measure.specs.declared.courses.Reason.TheVariants.{Counted, NoRoom, Unknown}
use Rattle.nm_measure.specs.declared.fates.Fate.{Fate}
use Rattle.nm_measure.specs.declared.fates.Fate.TheVariants as fate
use Rattle.nm_measure.specs.declared.flow_counts.FlowCounts.{FlowCounts}
use Rattle.nm_measure.specs.declared.flow_counts.PacketOutcome.{PacketOutcome}
use Rattle.nm_measure.specs.declared.flow_counts.PacketOutcome.TheVariants.{Delivered, Refused, Dropped, Discarded}
use Rattle.nm_measure.specs.declared.flow_times.FlowTimes.{FlowTimes}
use Rattle.nm_measure.specs.declared.role.Role.{Role}
use Rattle.nm_measure.specs.declared.role.Role.TheVariants as role
use Rattle.nm_measure.specs.declared.tag.Tag.{Tag}
use Rattle.nm_measure.specs.Delays.{AreDelays}
use Rattle.nm_measure.specs.Sums.{differences_of, greatest_of, last_of, sum_to}
use Rattle.nm_measure.specs.declared.totals.Delivered.{Delivered as DeliveredSums}
use Rattle.nm_measure.specs.declared.totals.FlowTotals.{FlowTotals}
use Rattle.nm_measure.specs.Ways.{WayEnd}

abbrev pub is_sent : Role → Bool
is_sent role.Sent = true
is_sent role.Reply = false
is_sent role.Nothing = false

-- a packet that source j made
abbrev pub counts_for : ℕ → Tag → Bool
counts_for j tag = is_sent tag.role && (tag.source == j)

abbrev pub outcome_number : PacketOutcome → ℕ
outcome_number Delivered = 0
outcome_number Refused = 1
outcome_number Dropped = 2
outcome_number Discarded = 3

abbrev pub is_reply : Role → Bool
is_reply role.Sent = false
is_reply role.Reply = true
is_reply role.Nothing = false

-- an ICMP message, other than an echo request, came to the node to which it is addressed
abbrev pub is_told : Reason → Bool
is_told (Counted counter) = counter_number counter == counter_number Icmp
is_told NoRoom = false
is_told Unknown = false

-- why a packet ends for which a node did this
abbrev pub FitsReason : Fate → Reason → Type 0
FitsReason fate.Told reason = reason ≡ Counted Icmp
FitsReason fate.SentOn reason = is_told reason ≡ false
FitsReason fate.Delivered reason = is_told reason ≡ false
FitsReason fate.Requested reason = is_told reason ≡ false
FitsReason fate.Refused reason = is_told reason ≡ false
FitsReason fate.Discarded reason = is_told reason ≡ false

abbrev pub is_at_home : EndPlace → ℕ → Bool
is_at_home (Node v) home = v == home
is_at_home (Iface i) home = false

-- the reply to a packet that a source made came to an end
abbrev pub is_answer : WayEnd → Bool
is_answer e = is_reply e.tag.role && is_told e.reason

-- at the node of source j, or elsewhere
abbrev pub comes_home : ℕ → WayEnd → Bool
comes_home j e = is_answer e && ((e.tag.source == j) && is_at_home e.place e.tag.home)

abbrev pub strays : ℕ → WayEnd → Bool
strays j e = is_answer e && ((e.tag.source == j) && not (is_at_home e.place e.tag.home))

-- packets of source j whose ways ended so
abbrev pub ended_so : ℕ → PacketOutcome → WayEnd → Bool
ended_so j outcome e =
    counts_for j e.tag && (outcome_number e.outcome == outcome_number outcome)

abbrev pub how_many : ℕ → PacketOutcome → List WayEnd → ℕ
how_many j outcome ends = count_by (ended_so j outcome) ends

-- from a source's event to the arrival of what it made then, of each packet that was delivered, in
-- the order of the arrivals; and the octets of these packets
abbrev pub delays_of : ℕ → List WayEnd → List ℕ
delays_of j ends = map (λ e. e.time - e.tag.at) (keep_where (ended_so j Delivered) ends)

abbrev pub octets_delivered : ℕ → List WayEnd → ℕ
octets_delivered j ends = sum_by (λ e. e.octets) (keep_where (ended_so j Delivered) ends)

-- from a source's event to the arrival of the reply to what it made then, in the order of the
-- arrivals; and how many replies came elsewhere
abbrev pub trips_of : ℕ → List WayEnd → List ℕ
trips_of j ends = map (λ e. e.time - e.tag.at) (keep_where (comes_home j) ends)

abbrev pub astray_of : ℕ → List WayEnd → ℕ
astray_of j ends = count_by (strays j) ends

-- when the last of them was delivered; 0 if none was
abbrev pub last_delivery : ℕ → List WayEnd → ℕ
last_delivery j ends = last_of (map (λ e. e.time) (keep_where (ended_so j Delivered) ends))

-- what became of the packets of source j; so many are under way
pub record HasOutcomes (j : ℕ) (ends : List WayEnd) (under_way : ℕ) (f : FlowCounts) : Type 0 where
  pub delivered : f.delivered ≡ how_many j Delivered ends
  pub refused : f.refused ≡ how_many j Refused ends
  pub dropped : f.dropped ≡ how_many j Dropped ends
  pub discarded : f.discarded ≡ how_many j Discarded ends
  pub on_way : f.under_way ≡ under_way

-- what became of those whose ways ended, and of replies
pub record HasEnds (j : ℕ) (ends : List WayEnd) (f : FlowCounts) : Type 0 where
  pub outcomes : HasOutcomes j ends f.under_way f
  pub astray : f.astray ≡ saturated (astray_of j ends)

-- how much of what source j sent arrived, and how late
pub record HasArrivals (j : ℕ) (ends : List WayEnd) (x : FlowTimes) : Type 0 where
  pub delays : AreDelays (delays_of j ends) x.delays
  pub octets : x.octets ≡ saturated (octets_delivered j ends)
  pub ended : x.ended ≡ last_delivery j ends
  pub trips : AreDelays (trips_of j ends) x.round_trips

-- how much of what source j sent was delivered, and how late
pub record HasDelivered (j : ℕ) (ends : List WayEnd) (x : DeliveredSums) : Type 0 where
  pub octets : x.octets ≡ saturated (octets_delivered j ends)
  pub delayed : x.delayed ≡ sum_to (delays_of j ends)
  pub differences : x.differences ≡ sum_to (differences_of (delays_of j ends))
  pub fits : greatest_of (delays_of j ends) < 2 ^ 64

-- the totals of source j
pub record HasTotals (j : ℕ) (ends : List WayEnd) (x : FlowTotals) : Type 0 where
  pub delivered : x.delivered ≡ how_many j Delivered ends
  pub lost : x.lost ≡ how_many j Refused ends + how_many j Dropped ends + how_many j Discarded ends
  pub octets : x.octets ≡ saturated (octets_delivered j ends)
  pub delayed : x.delayed ≡ sum_to (delays_of j ends)
  pub differences : x.differences ≡ sum_to (differences_of (delays_of j ends))
  pub fits : greatest_of (delays_of j ends) < 2 ^ 64

-- of all sources
abbrev pub AreOutcomes : List WayEnd → (under_way : ℕ → ℕ) → List FlowCounts → Type 0
AreOutcomes ends under_way counts =
    (j : ℕ) (f : FlowCounts) → slice_get counts j ≡ Some f → HasOutcomes j ends (under_way j) f

abbrev pub AreArrivals : List WayEnd → List FlowTimes → Type 0
AreArrivals ends times =
    (j : ℕ) (x : FlowTimes) → slice_get times j ≡ Some x → HasArrivals j ends x

abbrev pub AreAstray : List WayEnd → List FlowCounts → Type 0
AreAstray ends counts =
    (j : ℕ) (f : FlowCounts) → slice_get counts j ≡ Some f → f.astray ≡ saturated (astray_of j ends)

pub record AreFlows (ends : List WayEnd) (under_way : ℕ → ℕ) (counts : List FlowCounts)
    (times : List FlowTimes) : Type 0 where
  pub outcomes : AreOutcomes ends under_way counts
  pub arrivals : AreArrivals ends times
  pub astray : AreAstray ends counts
  pub same : length times ≡ length counts
