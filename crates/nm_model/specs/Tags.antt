-- Packets with tags. A tag stands beside a packet and says whose it is: a source's event gives one,
-- what a node sends in reaction to a packet has one that depends on that packet's, and nothing else
-- changes it. No event reads a tag. So the way of a packet is what a run over packets with tags says
-- of its tag.
use Rattle.std.specs.Prelude.{◌≡◌, ℕ, List, map, Option, Some, None}
use Rattle.std.specs.Option.{option_map}
use Rattle.std.specs.FinMap.{get}
use Rattle.nm_base.specs.declared.key.Key.{Key}
use Rattle.nm_base.specs.declared.event.Event.{Event}
use Rattle.nm_base.specs.declared.event.Event.TheVariants.{Delivery, Completion}
use Rattle.nm_base.specs.declared.event.Origin.{Origin}
use Rattle.nm_base.specs.declared.record.Record.{Record}
use Rattle.nm_model.specs.Network.{Net}
use Rattle.nm_model.specs.Port.{Port, Busy}
use Rattle.nm_model.specs.Run.{State}

-- which tags packets get
pub record Tagging (P N T : Type 0) : Type 0 where
  -- packet n of source j
  pub made : (j n : ℕ) → T
  -- what node v sends in this state, when this packet with its tag comes from there
  pub sent : (v : ℕ) → N → Origin → T × P → T

-- what a node sends, with this tag
abbrev pub with_tag : {P T : Type 0} → T → Option (ℕ × P) → Option (ℕ × (T × P))
with_tag tag None = None
with_tag tag (Some s) = Some (s.0, (tag, s.1))

-- the network over packets with tags
abbrev pub tagged : {P N T : Type 0} → Net P N → Tagging P N T → Net (T × P) N
tagged net tags = record {
  stop = net.stop;
  ifaces = net.ifaces;
  parts = net.parts;
  sources = net.sources;
  owner = net.owner;
  far_end = net.far_end;
  delay = net.delay;
  tx = λ i x. net.tx i x.1;
  least_tx = net.least_tx;
  room = λ i waiting x. net.room i (map (λ y. y.1) waiting) x.1;
  part = net.part;
  first = net.first;
  react = λ v n o x.
      ((net.react v n o x.1).0, with_tag (tags.sent v n o x) (net.react v n o x.1).1);
  source_node = net.source_node;
  source = λ j n. with_tag (tags.made j n) (net.source j n);
}

-- the same without tags

abbrev pub untagged_event : {P T : Type 0} → Event (T × P) → Event P
untagged_event (Delivery o x) = Delivery o x.1
untagged_event (Completion i) = Completion i

abbrev pub untagged_busy : {P T : Type 0} → Busy (T × P) → Busy P
untagged_busy b = record { completes = b.completes; waiting = map (λ x. x.1) b.waiting }

abbrev pub untagged_port : {P T : Type 0} → Port (T × P) → Port P
untagged_port w = record { busy = option_map untagged_busy w.busy; dropped = w.dropped }

abbrev pub untagged_record : {P T : Type 0} → Record (T × P) → Record P
untagged_record r = record { time = r.time; iface = r.iface; dir = r.dir; packet = r.packet.1 }

-- the second state is the first one without tags
pub record IsUntagged {P N T : Type 0} (s : State (T × P) N) (u : State P N) : Type 0 where
  pub nodes : u.node ≡ s.node
  pub ports : u.port ≡ (λ i. untagged_port (s.port i))
  pub pending : (q : Key) → get u.pending q ≡ option_map untagged_event (get s.pending q)
  pub sent : u.sent ≡ (λ c. map (λ m. (m.0, m.1.1)) (s.sent c))
  pub arrived : u.arrived ≡ s.arrived
  pub records : u.records ≡ map untagged_record s.records
