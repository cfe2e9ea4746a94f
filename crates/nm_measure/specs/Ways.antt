-- What becomes of the packets of sources. Each packet of the one event list has a tag, which says
-- whose it is: packets with tags behave as packets without (`tags_change_nothing` of nm_model). A
-- node that sends a packet on sends it with its tag. The echo reply to a source's packet is the
-- reply to that one; other packets that nodes make are nobody's.
use Rattle.std.specs.Prelude.{ℕ, zero, suc, if◌then◌else◌, List, [], ◌∷◌, ◌++◌, length, slice_get, Option, None, Some}
use Rattle.nm_base.specs.declared.event.Event.{Event}
use Rattle.nm_base.specs.declared.event.Event.TheVariants.{Delivery, Completion}
use Rattle.nm_base.specs.declared.event.Origin.{Origin}
use Rattle.nm_base.specs.declared.event.Origin.TheVariants.{Arrival, Source}
use Rattle.nm_base.specs.declared.key.Key.{Key}
use Rattle.nm_forward.specs.declared.counter.Counter.{Counter}
use Rattle.nm_forward.specs.declared.counter.Counter.TheVariants as count
use Rattle.nm_forward.specs.Row.{arrival_row, row_counter}
use Rattle.nm_forward.specs.State.{NodeConfiguration, NodeStateValue, is_own, table_of}
use Rattle.nm_model.specs.EventList.{least}
use Rattle.nm_model.specs.Network.{Net}
use Rattle.nm_model.specs.Offers.{offering_in}
use Rattle.nm_model.specs.Run.{State, one_list}
use Rattle.nm_model.specs.Tags.{Tagging, tagged}
use Rattle.nm_model.specs.declared.offering.Offering.{Offering}
use Rattle.nm_model.specs.declared.offering.Offering.TheVariants as became
use Rattle.nm_sim.specs.Network.{net_of}
use Rattle.nm_topology.specs.TopologyValue.{TopologyValue}
use Rattle.nm_topology.specs.declared.traffic.Source.{Source as TrafficSource}
use Rattle.nm_topology.specs.declared.traffic.Traffic.{Traffic}
use Rattle.nm_topology.specs.declared.traffic.Traffic.TheVariants.{Cbr, Echo, Raw}
use Rattle.nm_measure.specs.declared.fates.Fate.{Fate}
use Rattle.nm_measure.specs.declared.fates.Fate.TheVariants as fate
use Rattle.nm_measure.specs.declared.courses.EndPlace.{EndPlace}
use Rattle.nm_measure.specs.declared.courses.EndPlace.TheVariants.{Iface, Node}
use Rattle.nm_measure.specs.declared.courses.Reason.{Reason}
use Rattle.nm_measure.specs.declared.courses.Reason.TheVariants.{Counted, NoRoom}
use Rattle.nm_measure.specs.declared.flow_counts.PacketOutcome.{PacketOutcome}
use Rattle.nm_measure.specs.declared.flow_counts.PacketOutcome.TheVariants as ended
use Rattle.nm_measure.specs.declared.role.Role.{Role}
use Rattle.nm_measure.specs.declared.role.Role.TheVariants as role
use Rattle.nm_measure.specs.declared.tag.Tag.{Tag}

-- packet n of source j, which stands at node v and makes it at this time
abbrev pub own_tag : (j v n at : ℕ) → Tag
own_tag j v n at = record { role = role.Sent; source = j; home = v; number = n; at = at }

abbrev pub nobodys : Tag
nobodys = record { role = role.Nothing; source = 0; home = 0; number = 0; at = 0 }

-- the reply to a packet
abbrev pub reply_as : Role → Tag → Tag
reply_as role.Sent tag = record {
  role = role.Reply;
  source = tag.source;
  home = tag.home;
  number = tag.number;
  at = tag.at;
}
reply_as role.Reply tag = nobodys
reply_as role.Nothing tag = nobodys

abbrev pub reply_tag : Tag → Tag
reply_tag tag = reply_as tag.role tag

-- what a node did with a packet that arrived, by the counter that rose
abbrev pub fate_by : Counter → Fate
fate_by count.Header = fate.Discarded
fate_by count.BadDest = fate.Discarded
fate_by count.NotMine = fate.Discarded
fate_by count.NoNet = fate.Discarded
fate_by count.Ttl = fate.Discarded
fate_by count.Forwarded = fate.SentOn
fate_by count.Fragment = fate.Discarded
fate_by count.IcmpBad = fate.Discarded
fate_by count.Echo = fate.Requested
fate_by count.Icmp = fate.Told
fate_by count.UdpBad = fate.Discarded
fate_by count.Udp = fate.Delivered
fate_by count.Port = fate.Refused
fate_by count.Proto = fate.Refused
fate_by count.Quiet = fate.Discarded
fate_by count.ToSelf = fate.Discarded
fate_by count.NoRoute = fate.Discarded
fate_by count.Originated = fate.Discarded
fate_by count.Raw = fate.Discarded

-- the tag of what a node sends in reaction to a packet with this tag
abbrev pub answer_tag : Fate → Tag → Tag
answer_tag fate.SentOn tag = tag
answer_tag fate.Requested tag = reply_tag tag
answer_tag fate.Delivered tag = nobodys
answer_tag fate.Told tag = nobodys
answer_tag fate.Refused tag = nobodys
answer_tag fate.Discarded tag = nobodys

-- how the way of a packet ends at a node, if it does
abbrev pub outcome_by : Fate → Option PacketOutcome
outcome_by fate.SentOn = None
outcome_by fate.Delivered = Some ended.Delivered
outcome_by fate.Requested = Some ended.Delivered
outcome_by fate.Told = Some ended.Delivered
outcome_by fate.Refused = Some ended.Refused
outcome_by fate.Discarded = Some ended.Discarded

-- when a source's packet is made
abbrev pub time_of : Option (ℕ × List ℕ) → ℕ
time_of None = 0
time_of (Some made) = made.0

-- the end of a packet's way: whose, how, why, where and when, with the packet's octets as it came to
-- that node
pub record WayEnd : Type 0 where
  pub tag : Tag
  pub outcome : PacketOutcome
  pub reason : Reason
  pub place : EndPlace
  pub time : ℕ
  pub octets : ℕ

-- at node v, where this counter rose
abbrev pub end_at : Counter → (v time : ℕ) → Tag × List ℕ → PacketOutcome → WayEnd
end_at counter v time x outcome = record {
  tag = x.0;
  outcome = outcome;
  reason = Counted counter;
  place = Node v;
  time = time;
  octets = length x.1;
}

-- at the queue of interface i, which had no room
abbrev pub drop_at : (time : ℕ) → Tag × List ℕ → (i : ℕ) → WayEnd
drop_at time x i = record {
  tag = x.0;
  outcome = ended.Dropped;
  reason = NoRoom;
  place = Iface i;
  time = time;
  octets = length x.1;
}

-- of a packet that came to a node
abbrev pub ended_as : (PacketOutcome → WayEnd) → Option PacketOutcome → List WayEnd
ended_as end None = []
ended_as end (Some outcome) = end outcome ∷ []

-- of what a node sends: it ends if it is dropped
abbrev pub dropped_as : (ℕ → WayEnd) → Offering → List WayEnd
dropped_as end became.Nothing = []
dropped_as end (became.Started i) = []
dropped_as end (became.Waits i) = []
dropped_as end (became.Dropped i) = end i ∷ []

-- of what a source makes: what its node does not send is discarded
abbrev pub made_as : (discarded : WayEnd) → (dropped : ℕ → WayEnd) → Offering → List WayEnd
made_as discarded dropped became.Nothing = discarded ∷ []
made_as discarded dropped (became.Started i) = []
made_as discarded dropped (became.Waits i) = []
made_as discarded dropped (became.Dropped i) = dropped i ∷ []

-- Which counter rises where a node with this table does not send what a source makes: it goes to an
-- address of the node itself, or no route leads there. What a `raw` source makes is always sent.
abbrev pub unsent_to : NodeConfiguration → (to : ℕ) → Counter
unsent_to table to = if is_own table to then count.ToSelf else count.NoRoute

abbrev pub unsent_by : NodeConfiguration → Traffic → Counter
unsent_by table (Cbr c) = unsent_to table c.to
unsent_by table (Echo e) = unsent_to table e.to
unsent_by table (Raw r) = count.NoRoute

abbrev pub unsent_of : NodeConfiguration → Option TrafficSource → Counter
unsent_of table None = count.NoRoute
unsent_of table (Some s) = unsent_by table s.traffic

module _ (t : TopologyValue) where
  -- the counter that rises at node v where octets arrive, and what the node does with them
  abbrev pub counter_at : (v : ℕ) → List ℕ → Counter
  counter_at v x = row_counter (arrival_row (table_of t v) x)

  abbrev pub fate_at : (v : ℕ) → List ℕ → Fate
  fate_at v x = fate_by (counter_at v x)

  -- the counter that rises at source j's node where that does not send what the source makes
  abbrev pub unsent_at : (j : ℕ) → Counter
  unsent_at j = unsent_of (table_of t ((net_of t).source_node j)) (slice_get t.sources j)

  -- the tag of what node v sends in reaction to a packet
  abbrev pub sent_tag : (v : ℕ) → Origin → Tag × List ℕ → Tag
  sent_tag v (Arrival i) x = answer_tag (fate_at v x.1) x.0
  sent_tag v (Source j) x = x.0

  abbrev pub tagging : Tagging (List ℕ) NodeStateValue Tag
  tagging = record {
    made = λ j n. own_tag j ((net_of t).source_node j) n (time_of ((net_of t).source j n));
    sent = λ v n o x. sent_tag v o x;
  }

  -- the network over packets with tags, and its one event list after n events
  abbrev pub tagged_net : Net (Tag × List ℕ) NodeStateValue
  tagged_net = tagged (net_of t) tagging

  abbrev pub tagged_list : (n : ℕ) → State (Tag × List ℕ) NodeStateValue
  tagged_list n = one_list tagged_net n

  -- the ends of packets' ways in an event, in this state of the run
  abbrev pub ends_at : State (Tag × List ℕ) NodeStateValue → (time : ℕ) → Event (Tag × List ℕ)
      → List WayEnd
  ends_at s time (Delivery (Arrival i) x) =
      ended_as (end_at (counter_at ((net_of t).owner i) x.1) ((net_of t).owner i) time x)
      (outcome_by (fate_at ((net_of t).owner i) x.1))
      ++ dropped_as
      (drop_at time (sent_tag ((net_of t).owner i) (Arrival i) x, x.1))
      (offering_in tagged_net s.node s.port (Delivery (Arrival i) x))
  ends_at s time (Delivery (Source j) x) =
      made_as
      (end_at (unsent_at j) ((net_of t).source_node j) time x
      ended.Discarded)
      (drop_at time x)
      (offering_in tagged_net s.node s.port (Delivery (Source j) x))
  ends_at s time (Completion i) = []

  abbrev pub ends_next : State (Tag × List ℕ) NodeStateValue
      → Option (Key × Event (Tag × List ℕ)) → List WayEnd
  ends_next s None = []
  ends_next s (Some e) = ends_at s e.0.time e.1

  -- in the first n events of the one event list
  abbrev pub ends_in : (n : ℕ) → List WayEnd
  ends_in zero = []
  ends_in (suc n) = ends_in n ++ ends_next (tagged_list n) (least (tagged_list n).pending)
