-- The ways of a source's packets. The hops of a packet are the records of the run over packets with
-- tags whose packet has its tag.
use Rattle.std.specs.Prelude.{◌≡◌, ℕ, zero, suc, ◌+◌, ◌==◌, ◌&&◌, Bool, List, map, length, count_by}
use Rattle.nm_base.specs.declared.record.Record.{Record}
use Rattle.nm_model.specs.Lists.{keep_where}
use Rattle.nm_sim.specs.Network.{net_of}
use Rattle.nm_topology.specs.TopologyValue.{TopologyValue}
use Rattle.nm_measure.specs.CourseValue.{CourseValue}
use Rattle.nm_measure.specs.declared.courses.Ended.{Ended}
use Rattle.nm_measure.specs.declared.courses.Hop.{Hop}
use Rattle.nm_measure.specs.declared.tag.Tag.{Tag}
use Rattle.nm_measure.specs.Counted.{counts_for}
use Rattle.nm_measure.specs.Lanes.{lanes_in}
use Rattle.nm_measure.specs.Rising.{Rise}
use Rattle.nm_measure.specs.Ways.{WayEnd, ends_in, tagged_list, time_of}

-- packet k of source j
abbrev pub is_packet : (j k : ℕ) → Tag → Bool
is_packet j k tag = counts_for j tag && (tag.number == k)

-- a packet with this tag passes an interface
abbrev pub pass_of : Record (Tag × List ℕ) → Tag × Hop
pass_of r = (r.packet.0, record { iface = r.iface; dir = r.dir; time = r.time })

-- all that did in the first n events of the one event list
abbrev pub passes_in : TopologyValue → (n : ℕ) → List (Tag × Hop)
passes_in t n = map pass_of (tagged_list t n).records

-- the hops of packet k of source j among these
abbrev pub hops_in : (j k : ℕ) → List (Tag × Hop) → List Hop
hops_in j k passes = map (λ p. p.1) (keep_where (λ p. is_packet j k p.0) passes)

-- its way
abbrev pub course_in : TopologyValue → (j : ℕ) → List (Tag × Hop) → (k : ℕ) → CourseValue
course_in t j passes k = record {
  number = k;
  sent = time_of ((net_of t).source j k);
  hops = hops_in j k passes;
}

-- and its end
abbrev pub ended_in : TopologyValue → (j : ℕ) → List (Tag × Hop) → WayEnd → Ended
ended_in t j passes e = record {
  course = course_in t j passes e.tag.number;
  end = record { outcome = e.outcome; reason = e.reason; place = e.place; time = e.time };
}

-- the ends of source j's packets in the first n events, and their ways, both in the order of these
-- ends
abbrev pub own_ends : ℕ → List WayEnd → List WayEnd
own_ends j ends = keep_where (λ e. counts_for j e.tag) ends

abbrev pub ways_in : TopologyValue → (j n : ℕ) → List Ended
ways_in t j n = map (ended_in t j (passes_in t n)) (own_ends j (ends_in t n))

-- how many tags on the links and in the queues of so many interfaces pass a test
abbrev pub tags_in : (Tag → Bool) → (count : ℕ) → (ℕ → List Tag × List Tag) → ℕ
tags_in p zero all = 0
tags_in p (suc i) all = tags_in p i all + (count_by p (all i).0 + count_by p (all i).1)

-- The packets of source j that are under way after n events, by their rising numbers: those that
-- are on a link or in a queue.
pub record AreUnderWay (t : TopologyValue) (j n : ℕ) (numbers : List ℕ) : Type 0 where
  pub rise : Rise numbers
  pub each : (k : ℕ) → count_by (λ m. m == k) numbers
      ≡ tags_in (is_packet j k) (length t.ifaces) (lanes_in t (tagged_list t n))
