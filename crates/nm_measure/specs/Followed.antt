-- The ways of one source's packets, as they are followed event by event.
use Rattle.std.specs.Prelude.{◌≡◌, ℕ, suc, ◌+◌, ◌<◌, ◌≤◌, ◌^◌, ◌==◌, not, if◌then◌else◌, List, [], ◌∷◌, ◌++◌, map, length, count_by, Option, None, Some}
use Rattle.std.specs.Option.{option_map}
use Rattle.nm_base.specs.declared.key.Place.{Place}
use Rattle.nm_base.specs.declared.record.Dir.TheVariants.{Out}
use Rattle.nm_events.specs.Held.{Held}
use Rattle.nm_model.specs.Lists.{keep_where}
use Rattle.nm_model.specs.declared.offering.Offering.{Offering}
use Rattle.nm_model.specs.declared.offering.Offering.TheVariants.{Nothing, Started, Waits, Dropped}
use Rattle.nm_sim.specs.Network.{net_of}
use Rattle.nm_sim.specs.Part.{PartValue}
use Rattle.nm_sim.specs.declared.told.Happened.{Happened}
use Rattle.nm_topology.specs.TopologyValue.{TopologyValue}
use Rattle.nm_measure.specs.CourseValue.{CourseValue}
use Rattle.nm_measure.specs.Courses.{course_in, ended_in, hops_in, is_packet, own_ends, passes_in, tags_in}
use Rattle.nm_measure.specs.CoursesValue.{CoursesValue}
use Rattle.nm_measure.specs.declared.courses.End.{End}
use Rattle.nm_measure.specs.declared.courses.EndPlace.TheVariants.{Iface, Node}
use Rattle.nm_measure.specs.declared.courses.Ended.{Ended}
use Rattle.nm_measure.specs.declared.courses.Hop.{Hop}
use Rattle.nm_measure.specs.declared.courses.Reason.{Reason}
use Rattle.nm_measure.specs.declared.courses.Reason.TheVariants.{NoRoom}
use Rattle.nm_measure.specs.declared.flow_counts.PacketOutcome.{PacketOutcome}
use Rattle.nm_measure.specs.declared.flow_counts.PacketOutcome.TheVariants as outcome
use Rattle.nm_measure.specs.declared.flows.Arrival.{Arrival}
use Rattle.nm_measure.specs.declared.tag.Tag.{Tag}
use Rattle.nm_measure.specs.Counted.{counts_for}
use Rattle.nm_measure.specs.declared.watched.Watched.{Watched}
use Rattle.nm_measure.specs.Flows.{sent_numbers}
use Rattle.nm_measure.specs.Interfaces.{IsNext}
use Rattle.nm_measure.specs.Lanes.{WatchesRun, lanes_in}
use Rattle.nm_measure.specs.Rising.{Rise}
use Rattle.nm_measure.specs.Sent.{AreSent, sent_in}
use Rattle.nm_measure.specs.Taken.{IsFirstOf}
use Rattle.nm_measure.specs.Ways.{WayEnd, ends_in, tagged_list}

-- a packet is made
abbrev pub begun : Tag → CoursesValue → CoursesValue
begun tag c = record {
  source = c.source;
  under_way = if counts_for c.source tag
      then c.under_way ++ record { number = tag.number; sent = tag.at; hops = [] } ∷ []
      else c.under_way;
  ended = c.ended;
}

-- it passes an interface
abbrev pub with_hop : (j : ℕ) → Tag → Hop → CourseValue → CourseValue
with_hop j tag hop x =
    if is_packet j x.number tag
    then record { number = x.number; sent = x.sent; hops = x.hops ++ hop ∷ [] }
    else x

abbrev pub gone_past : Tag → Hop → CoursesValue → CoursesValue
gone_past tag hop c = record {
  source = c.source;
  under_way = map (with_hop c.source tag hop) c.under_way;
  ended = c.ended;
}

-- its way ends
abbrev pub closed : End → CourseValue → Ended
closed end x = record { course = x; end = end }

abbrev pub over : Tag → End → CoursesValue → CoursesValue
over tag end c = record {
  source = c.source;
  under_way = keep_where (λ x. not (is_packet c.source x.number tag)) c.under_way;
  ended = c.ended ++ map (closed end) (keep_where (λ x. is_packet c.source x.number tag) c.under_way);
}

-- what is under way and what ended become this
abbrev pub becoming : CoursesValue → CoursesValue → CoursesValue
becoming c d = record { source = c.source; under_way = d.under_way; ended = d.ended }

-- it came to a node, where its way ends or does not
abbrev pub came_by : Tag → Option PacketOutcome → Reason → Arrival → CoursesValue → CoursesValue
came_by tag None reason arrival c = c
came_by tag (Some outcome) reason arrival c = over tag (record {
  outcome = outcome;
  reason = reason;
  place = Node arrival.node;
  time = arrival.now;
}) c

abbrev pub came_to_end : Tag → Option PacketOutcome → Reason → Arrival → CoursesValue → CoursesValue
came_to_end tag how reason arrival c = becoming c (came_by tag how reason arrival c)

-- it was offered to an interface
abbrev pub went_by : Offering → Tag → (now : ℕ) → CoursesValue → CoursesValue
went_by Nothing tag now c = c
went_by (Started i) tag now c = gone_past tag (record { iface = i; dir = Out; time = now }) c
went_by (Waits i) tag now c = c
went_by (Dropped i) tag now c = over tag (record {
  outcome = outcome.Dropped;
  reason = NoRoom;
  place = Iface i;
  time = now;
}) c

abbrev pub went_out : Offering → Tag → (now : ℕ) → CoursesValue → CoursesValue
went_out offering tag now c = becoming c (went_by offering tag now c)

-- no tag of these packets, which were made, is in the network
abbrev pub AreGone : (tags : ℕ → ℕ) → (made : ℕ) → List WayEnd → Type 0
AreGone tags made [] = Unit {0}
AreGone tags made (e ∷ ends) =
    (tags e.tag.number ≡ 0) × (e.tag.number < made) × AreGone tags made ends

-- The ways of source j's packets after these hops and ends, with so many tags of each packet in the
-- network, of as many packets as were made; `taken` were taken of those that ended.
pub record AreCourses (t : TopologyValue) (passes : List (Tag × Hop)) (tags : ℕ → ℕ) (made : ℕ)
    (taken : List Ended) (ends : List WayEnd) (c : CoursesValue) : Type 0 where
  pub numbers : List ℕ
  pub under_way : c.under_way ≡ map (course_in t c.source passes) numbers
  pub rise : Rise numbers
  pub each : (k : ℕ) → count_by (λ m. m == k) numbers ≡ tags k
  pub few : (k : ℕ) → made ≤ k → tags k ≡ 0
  pub fresh : (k : ℕ) → made ≤ k → hops_in c.source k passes ≡ []
  pub ended : taken ++ c.ended ≡ map (ended_in t c.source passes) ends
  pub gone : AreGone tags made ends

-- after n events of the one event list
abbrev pub AreFollowed : TopologyValue → ℕ → List Ended → Option CoursesValue → Type 0
AreFollowed t n taken None = Unit {0}
AreFollowed t n taken (Some c) =
    AreCourses t (passes_in t n)
    (λ k. tags_in (is_packet c.source k) (length t.ifaces) (lanes_in t (tagged_list t n)))
    (sent_in (net_of t) c.source n) taken (own_ends c.source (ends_in t n)) c

-- their numbers rise
abbrev pub NumbersRise : Option CoursesValue → Type 0
NumbersRise None = Unit {0}
NumbersRise (Some c) = Rise (map (λ x. x.number) c.under_way)

-- of this source, if of any
abbrev pub IsFollowed : TopologyValue → Option ℕ → ℕ → List Ended → Option CoursesValue → Type 0
IsFollowed t j n taken o = (option_map (λ c. c.source) o ≡ j) × AreFollowed t n taken o

-- what is seen in an event makes them those of one event more
abbrev pub FollowsOn : TopologyValue → (now : ℕ) → Place → Happened → (old new : Watched) → Type 0
FollowsOn t now place h old new = (n : ℕ) (p : PartValue Held) (j : Option ℕ) (taken : List Ended)
    → n + 1 < 2 ^ 64 → AreSent t n (sent_numbers old.flows.counts.items) → IsNext t n now place p h
    → WatchesRun t n old → IsFollowed t j n taken old.courses
    → IsFollowed t j (suc n) taken new.courses

-- the first of those that ended is taken, or of those that are under way
abbrev pub TakesEnded : Option Ended → (old new : Option CoursesValue) → Type 0
TakesEnded result None new = (result ≡ None) × (new ≡ None)
TakesEnded result (Some c) new = (d : CoursesValue) × (new ≡ Some d) × (d.source ≡ c.source)
    × (d.under_way ≡ c.under_way) × IsFirstOf c.ended result d.ended

abbrev pub TakesOpen : Option CourseValue → (old new : Option CoursesValue) → Type 0
TakesOpen result None new = (result ≡ None) × (new ≡ None)
TakesOpen result (Some c) new = (d : CoursesValue) × (new ≡ Some d)
    × IsFirstOf c.under_way result d.under_way
