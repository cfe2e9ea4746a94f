-- The rows of the packets of a source.
use Rattle.std.specs.Prelude.{◌≡◌, ℕ, List, [], ◌∷◌, ◌++◌, map, slice_get, Option, None, Some, codes, decimal}
use Rattle.nm_base.specs.declared.record.Dir.{Dir}
use Rattle.nm_base.specs.declared.record.Dir.TheVariants.{In, Out}
use Rattle.nm_forward.specs.Counter.{counter_name}
use Rattle.nm_model.specs.Before.{IsBefore}
use Rattle.nm_topology.specs.PartValues.{IfaceValue, NodeValue}
use Rattle.nm_topology.specs.TopologyValue.{TopologyValue}
use Rattle.nm_sim.specs.Network.{net_of}
use Rattle.nm_measure.specs.CourseValue.{CourseValue}
use Rattle.nm_measure.specs.Courses.{AreUnderWay, course_in, passes_in, ways_in}
use Rattle.nm_measure.specs.Followed.{IsFollowed}
use Rattle.nm_measure.specs.CoursesValue.{CoursesValue}
use Rattle.nm_measure.specs.declared.courses.End.{End}
use Rattle.nm_measure.specs.declared.courses.EndPlace.{EndPlace}
use Rattle.nm_measure.specs.declared.courses.EndPlace.TheVariants.{Iface, Node}
use Rattle.nm_measure.specs.declared.courses.Ended.{Ended}
use Rattle.nm_measure.specs.declared.courses.Hop.{Hop}
use Rattle.nm_measure.specs.declared.courses.Reason.{Reason}
use Rattle.nm_measure.specs.declared.courses.Reason.TheVariants.{Counted, NoRoom, Unknown}
use Rattle.nm_measure.specs.declared.flow_counts.PacketOutcome.{PacketOutcome}
use Rattle.nm_measure.specs.declared.flow_counts.PacketOutcome.TheVariants.{Delivered, Refused, Dropped, Discarded}
use Rattle.nm_series.specs.Rows.{cell}

-- how a packet ended, and why: a counter that rose, or a queue without room
abbrev pub outcome_word : PacketOutcome → List ℕ
outcome_word Delivered = codes "delivered"
outcome_word Refused = codes "refused"
outcome_word Dropped = codes "dropped"
outcome_word Discarded = codes "discarded"

abbrev pub reason_word : Reason → List ℕ
reason_word (Counted counter) = counter_name counter
reason_word NoRoom = codes "queue"
reason_word Unknown = []

-- the names of interfaces and nodes, if there are any of these numbers
abbrev pub iface_word : Option IfaceValue → List ℕ
iface_word None = codes "-"
iface_word (Some i) = i.name

abbrev pub node_word : Option NodeValue → List ℕ
node_word None = codes "-"
node_word (Some v) = v.name

-- it arrived at an interface, or its transmission started there
abbrev pub dir_word : Dir → List ℕ
dir_word In = codes "<"
dir_word Out = codes ">"

module _ (t : TopologyValue) where
  -- where it ended
  abbrev pub place_word : EndPlace → List ℕ
  place_word (Node v) = node_word (slice_get t.nodes v)
  place_word (Iface i) = iface_word (slice_get t.ifaces i)

  abbrev pub hop_words : Hop → List ℕ
  hop_words h = iface_word (slice_get t.ifaces h.iface) ++ dir_word h.dir ++ decimal h.time

  -- all hops, a space between two
  abbrev pub further_words : List Hop → List ℕ
  further_words [] = []
  further_words (h ∷ hops) = codes " " ++ hop_words h ++ further_words hops

  abbrev pub way_words : List Hop → List ℕ
  way_words [] = []
  way_words (h ∷ hops) = hop_words h ++ further_words hops

  -- how, why, where and when it ended
  abbrev pub end_words : End → List ℕ
  end_words e =
      codes "," ++ outcome_word e.outcome ++ codes "," ++ reason_word e.reason
      ++ codes "," ++ place_word e.place ++ cell e.time

  -- which packet it is, when it was made, how it ended, and its way
  abbrev pub ended_row : Ended → List ℕ
  ended_row e =
      decimal e.course.number ++ cell e.course.sent ++ end_words e.end
      ++ codes "," ++ way_words e.course.hops ++ codes "\n"

  abbrev pub under_way_row : CourseValue → List ℕ
  under_way_row x =
      decimal x.number ++ cell x.sent ++ codes ",under_way,,,," ++ way_words x.hops ++ codes "\n"

  abbrev pub ended_rows : List Ended → List ℕ
  ended_rows [] = []
  ended_rows (e ∷ ended) = ended_row e ++ ended_rows ended

  abbrev pub under_way_rows : List CourseValue → List ℕ
  under_way_rows [] = []
  under_way_rows (x ∷ under_way) = under_way_row x ++ under_way_rows under_way

-- the names of the columns
abbrev pub packet_columns : List ℕ
packet_columns = codes "packet,sent_nanoseconds,outcome,reason,place,ended_nanoseconds,way\n"

-- The rows of source j's packets in the whole run: of those whose ways ended, in the order of their
-- ends, and behind them of those that are under way at `stop`, by their numbers.
pub record ArePacketRows (t : TopologyValue) (j : ℕ) (text : List ℕ) : Type 0 where
  pub events : ℕ
  pub over : IsBefore (net_of t) t.stop events
  pub numbers : List ℕ
  pub under_way : AreUnderWay t j events numbers
  pub rows : text ≡ packet_columns ++ ended_rows t (ways_in t j events)
      ++ under_way_rows t (map (course_in t j (passes_in t events)) numbers)

-- as far as they were written: behind this there are the rows of those ways that were taken
abbrev pub HasRows : TopologyValue → (j n : ℕ) → (initial text : List ℕ) → Option CoursesValue
    → Type 0
HasRows t j n initial text courses = (taken : List Ended) × IsFollowed t (Some j) n taken courses
    × (text ≡ initial ++ ended_rows t taken)

-- all that ended up to then were taken
abbrev pub HasAllRows : TopologyValue → (j n : ℕ) → (initial text : List ℕ) → Option CoursesValue
    → Type 0
HasAllRows t j n initial text courses = IsFollowed t (Some j) n (ways_in t j n) courses
    × (text ≡ initial ++ ended_rows t (ways_in t j n))
