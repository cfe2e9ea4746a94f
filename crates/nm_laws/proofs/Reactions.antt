-- By how much the counters of a node rise in answer to a packet.
use Rattle.std.proofs.Common.{◌≡◌, ℕ, ◌+◌, ◌^◌, ◌<◌, Bool, true, false, cond, ◌==◌, List, [], ◌∷◌, length, Option, Some, None, refl, ap, ◌∙◌, arith, ⊎_elim, sum_by, slice_index, slice_set, slice_get}
use Rattle.std.proofs.lemmas.List.{get_or-set_same, get_or-set_other, length-set}
use Rattle.std.proofs.lemmas.List.Sums.{sum_by-cons}
use Rattle.nm_base.specs.declared.event.Origin.{Origin}
use Rattle.nm_base.specs.declared.event.Origin.TheVariants.{Arrival, Source as FromSource}
use Rattle.nm_base.specs.Count.{saturated}
use Rattle.nm_packet.specs.declared.icmp.MessageKind.{MessageKind}
use Rattle.nm_packet.specs.Address.{is_martian}
use Rattle.nm_packet.specs.Ipv4.{Header as Ipv4Fields, cut_of, fields_of}
use Rattle.nm_topology.specs.declared.traffic.Source.{Source}
use Rattle.nm_topology.specs.declared.traffic.Traffic.{Traffic}
use Rattle.nm_topology.specs.declared.traffic.Traffic.TheVariants.{Cbr, Echo as EchoTraffic, Raw as RawTraffic}
use Rattle.nm_topology.specs.PartValues.{IfaceValue}
use Rattle.nm_topology.specs.TopologyValue.{TopologyValue}
use Rattle.nm_model.specs.Port.{option_list}
use Rattle.nm_model.proofs.ListLemmas.{same_number, number_apart, number_tied}
use Rattle.nm_forward.specs.declared.counter.Counter.{Counter}
use Rattle.nm_forward.specs.declared.counter.Counter.TheVariants.{Header, BadDest, NotMine, NoNet, Ttl, Forwarded, Fragment, IcmpBad, Echo, Icmp, UdpBad, Udp, Port, Proto, Quiet, ToSelf, NoRoute, Originated, Raw}
use Rattle.nm_forward.specs.declared.row.Row.{Row}
use Rattle.nm_forward.specs.declared.row.Row.TheVariants as row
use Rattle.nm_forward.specs.Counter.{counter_number, raised}
use Rattle.nm_forward.specs.Row.{arrival_row, row_counter}
use Rattle.nm_forward.specs.Routes.{route_of}
use Rattle.nm_forward.specs.State.{NodeConfiguration, NodeStateValue, first_state, is_own, state_counted, table_of}
use Rattle.nm_forward.specs.Originate.{Consequence, Nothing, Counts, Sends, Originates, Draft, concluded, consequence_of, error_about, error_of, expired, is_quiet, no_network, no_port, no_protocol, originate, originate_by, reply_of, reply_to}
use Rattle.nm_forward.specs.Reaction.{arrived, handed, handed_by, reaction}
use Rattle.nm_laws.specs.Counted.{arrival_counters, sending_counters, total_of}

counter_below : (c : Counter) → counter_number c < 19
counter_below Header = omega arith
counter_below BadDest = omega arith
counter_below NotMine = omega arith
counter_below NoNet = omega arith
counter_below Ttl = omega arith
counter_below Forwarded = omega arith
counter_below Fragment = omega arith
counter_below IcmpBad = omega arith
counter_below Echo = omega arith
counter_below Icmp = omega arith
counter_below UdpBad = omega arith
counter_below Udp = omega arith
counter_below Port = omega arith
counter_below Proto = omega arith
counter_below Quiet = omega arith
counter_below ToSelf = omega arith
counter_below NoRoute = omega arith
counter_below Originated = omega arith
counter_below Raw = omega arith

-- how often a counter stands among these
abbrev pub weight : List Counter → Counter → ℕ
weight l d = sum_by (λ c. cond (counter_number c == counter_number d) 1 0) l

abbrev totals : List Counter → List ℕ → ℕ
totals l counts = sum_by (λ c. slice_index counts (counter_number c)) l

-- a node has a count for each counter
abbrev pub IsWhole : NodeStateValue → Type 0
IsWhole n = length n.counters ≡ 19

raised-length : (d : Counter) (counts : List ℕ) → length (raised d counts) ≡ length counts
unfolding raised
raised-length d counts = length-set counts (counter_number d) (saturated (slice_index counts (counter_number d) + 1))

module _ (d : Counter) (counts : List ℕ) (whole : length counts ≡ 19) where
  -- a counter among the totals
  raised_at : (c : Counter) → slice_index counts (counter_number c) + cond (counter_number c == counter_number d) 1 0 < 2 ^ 64
      → slice_index (raised d counts) (counter_number c) ≡ slice_index counts (counter_number c) + cond (counter_number c == counter_number d) 1 0
  unfolding raised
  raised_at c below = ⊎_elim
      (λ same.
      let one : ◌≡◌ {A = ℕ} (cond (counter_number c == counter_number d) 1 0) 1 = ap (λ z. cond (z == counter_number d) 1 0) same ∙ ap (λ b. cond b 1 0) (number_tied (counter_number d)) in
      let old = ap (slice_index counts) same in
      let there = counter_below d in
      let new = ap (slice_index (slice_set counts (counter_number d) (saturated (slice_index counts (counter_number d) + 1)))) same
      ∙ get_or-set_same counts (counter_number d) (saturated (slice_index counts (counter_number d) + 1)) 0 (omega arith) in
      omega arith)
      (λ other.
      let none : ◌≡◌ {A = ℕ} (cond (counter_number c == counter_number d) 1 0) 0 = ap (λ b. cond b 1 0) (number_apart (counter_number c) (counter_number d) other) in
      let new = get_or-set_other counts (counter_number d) (counter_number c) (saturated (slice_index counts (counter_number d) + 1)) 0 other in
      omega arith)
      (same_number (counter_number c) (counter_number d))

  raised_totals : (l : List Counter) → totals l counts + weight l d < 2 ^ 64 → totals l (raised d counts) ≡ totals l counts + weight l d
  raised_totals [] below = refl
  raised_totals (c ∷ l) below =
      let a = sum_by-cons (λ c. slice_index counts (counter_number c)) c l in
      let b = sum_by-cons (λ c. slice_index (raised d counts) (counter_number c)) c l in
      let w = sum_by-cons (λ c. cond (counter_number c == counter_number d) 1 0) c l in
      let f = raised_at c (omega arith) in
      let g = raised_totals l (omega arith) in
      omega arith

-- what a consequence adds to the totals, and how many packets it sends
module _ (l : List Counter) where
  abbrev added : Consequence → ℕ
  added Nothing = 0
  added (Counts c) = weight l c
  added (Sends via x) = 0
  added (Originates via x) = weight l Originated

  concluded_total : (c : Consequence) (n : NodeStateValue) → IsWhole n → total_of l n + added c < 2 ^ 64 → total_of l (concluded c n).0 ≡ total_of l n + added c
  concluded_total Nothing n w below = omega arith
  concluded_total (Counts c) n w below = raised_totals c n.counters w l below
  concluded_total (Sends via x) n w below = omega arith
  concluded_total (Originates via x) n w below = raised_totals Originated n.counters w l below

abbrev sendings : Consequence → ℕ
sendings Nothing = 0
sendings (Counts c) = 0
sendings (Sends via x) = 1
sendings (Originates via x) = 1

concluded_sends : (c : Consequence) (n : NodeStateValue) → length (option_list (concluded c n).1) ≡ sendings c
concluded_sends Nothing n = refl
concluded_sends (Counts c) n = refl
concluded_sends (Sends via x) n = refl
concluded_sends (Originates via x) n = refl

concluded_whole : (c : Consequence) (n : NodeStateValue) → IsWhole n → IsWhole (concluded c n).0
concluded_whole Nothing n w = w
concluded_whole (Counts c) n w = raised-length c n.counters ∙ w
concluded_whole (Sends via x) n w = w
concluded_whole (Originates via x) n w = raised-length Originated n.counters ∙ w

-- what holds of what is originated, and of the counters of what is not
module _ (P : Consequence → Type 0) (quiet : P (Counts Quiet)) (itself : P (Counts ToSelf)) (unrouted : P (Counts NoRoute)) (originates : (via : ℕ) (x : List ℕ) → P (Originates via x))
    (ifaces : List IfaceValue) (table : NodeConfiguration) (identification : ℕ) where
  either : (b : Bool) (c d : Consequence) → P c → P d → P (cond b c d)
  either true c d p q = p
  either false c d p q = q

  routed : (out : Draft) (o : Option ℕ) → P (originate_by ifaces table identification out o)
  routed out None = unrouted
  routed out (Some via) = originates via _

  of_originate : (out : Draft) → P (originate ifaces table identification out)
  unfolding originate
  of_originate out = either (is_own table out.destination) (Counts ToSelf) _ itself (routed out (route_of table.routes out.destination))

  of_error : (p : List ℕ) (kind : MessageKind) → P (error_of ifaces table identification p kind)
  unfolding error_of
  of_error p kind = either (is_quiet p) (Counts Quiet) _ quiet (of_originate (error_about p kind))

  of_reply : (h : Ipv4Fields) (request : List ℕ) → P (reply_of ifaces table identification h request)
  unfolding reply_of
  of_reply h request = either (is_martian h.source) (Counts Quiet) _ quiet (of_originate (reply_to h request))

-- counters that arrivals raise, and nothing else
pub record OfArrivals (l : List Counter) : Type 0 where
  pub quiet : weight l Quiet ≡ 0
  pub itself : weight l ToSelf ≡ 0
  pub unrouted : weight l NoRoute ≡ 0
  pub made : weight l Originated ≡ 0
  pub raw : weight l Raw ≡ 0

pub all_of_arrivals : OfArrivals arrival_counters
all_of_arrivals = record { quiet = refl; itself = refl; unrouted = refl; made = refl; raw = refl }

pub row_of_arrivals : (r : Row) → OfArrivals (row_counter r ∷ [])
row_of_arrivals row.BadHeader = record { quiet = refl; itself = refl; unrouted = refl; made = refl; raw = refl }
row_of_arrivals row.BadDestination = record { quiet = refl; itself = refl; unrouted = refl; made = refl; raw = refl }
row_of_arrivals row.NotMine = record { quiet = refl; itself = refl; unrouted = refl; made = refl; raw = refl }
row_of_arrivals row.Unreachable = record { quiet = refl; itself = refl; unrouted = refl; made = refl; raw = refl }
row_of_arrivals row.Expired = record { quiet = refl; itself = refl; unrouted = refl; made = refl; raw = refl }
row_of_arrivals (row.Forward via) = record { quiet = refl; itself = refl; unrouted = refl; made = refl; raw = refl }
row_of_arrivals row.Fragment = record { quiet = refl; itself = refl; unrouted = refl; made = refl; raw = refl }
row_of_arrivals row.BadIcmp = record { quiet = refl; itself = refl; unrouted = refl; made = refl; raw = refl }
row_of_arrivals (row.EchoRequest request) = record { quiet = refl; itself = refl; unrouted = refl; made = refl; raw = refl }
row_of_arrivals row.OtherIcmp = record { quiet = refl; itself = refl; unrouted = refl; made = refl; raw = refl }
row_of_arrivals row.BadUdp = record { quiet = refl; itself = refl; unrouted = refl; made = refl; raw = refl }
row_of_arrivals row.Delivered = record { quiet = refl; itself = refl; unrouted = refl; made = refl; raw = refl }
row_of_arrivals row.ClosedPort = record { quiet = refl; itself = refl; unrouted = refl; made = refl; raw = refl }
row_of_arrivals row.UnknownProtocol = record { quiet = refl; itself = refl; unrouted = refl; made = refl; raw = refl }

-- each row raises one of the counters of arrivals
pub row_counts : (r : Row) → weight arrival_counters (row_counter r) ≡ 1
row_counts row.BadHeader = refl
row_counts row.BadDestination = refl
row_counts row.NotMine = refl
row_counts row.Unreachable = refl
row_counts row.Expired = refl
row_counts (row.Forward via) = refl
row_counts row.Fragment = refl
row_counts row.BadIcmp = refl
row_counts (row.EchoRequest request) = refl
row_counts row.OtherIcmp = refl
row_counts row.BadUdp = refl
row_counts row.Delivered = refl
row_counts row.ClosedPort = refl
row_counts row.UnknownProtocol = refl

-- and what follows raises none
module _ (l : List Counter) (of : OfArrivals l) (ifaces : List IfaceValue) (table : NodeConfiguration) (identification : ℕ) where
  abbrev AddsNone : Consequence → Type 0
  AddsNone c = added l c ≡ 0

  none_of_error : (p : List ℕ) (kind : MessageKind) → AddsNone (error_of ifaces table identification p kind)
  none_of_error p kind = of_error AddsNone of.quiet of.itself of.unrouted (λ via x. of.made) ifaces table identification p kind

  none_of_originate : (out : Draft) → AddsNone (originate ifaces table identification out)
  none_of_originate out = of_originate AddsNone of.quiet of.itself of.unrouted (λ via x. of.made) ifaces table identification out

  row_adds : (p : List ℕ) (r : Row) → AddsNone (consequence_of ifaces table identification p r)
  row_adds p row.BadHeader = refl
  row_adds p row.BadDestination = refl
  row_adds p row.NotMine = refl
  row_adds p row.Unreachable = none_of_error p no_network
  row_adds p row.Expired = none_of_error p expired
  row_adds p (row.Forward via) = refl
  row_adds p row.Fragment = refl
  row_adds p row.BadIcmp = refl
  row_adds p (row.EchoRequest request) = of_reply AddsNone of.quiet of.itself of.unrouted (λ via x. of.made) ifaces table identification (fields_of p) request
  row_adds p row.OtherIcmp = refl
  row_adds p row.BadUdp = refl
  row_adds p row.Delivered = refl
  row_adds p row.ClosedPort = none_of_error p no_port
  row_adds p row.UnknownProtocol = none_of_error p no_protocol

-- the counters of sendings: one is raised where something is sent
module _ (ifaces : List IfaceValue) (table : NodeConfiguration) (identification : ℕ) where
  abbrev SendsAll : Consequence → Type 0
  SendsAll c = added sending_counters c ≡ sendings c

  all_of_error : (p : List ℕ) (kind : MessageKind) → SendsAll (error_of ifaces table identification p kind)
  all_of_error p kind = of_error SendsAll refl refl refl (λ via x. refl) ifaces table identification p kind

  all_of_originate : (out : Draft) → SendsAll (originate ifaces table identification out)
  all_of_originate out = of_originate SendsAll refl refl refl (λ via x. refl) ifaces table identification out

  row_sends : (p : List ℕ) (r : Row) → weight sending_counters (row_counter r) + added sending_counters (consequence_of ifaces table identification p r) ≡ sendings (consequence_of ifaces table identification p r)
  row_sends p row.BadHeader = refl
  row_sends p row.BadDestination = refl
  row_sends p row.NotMine = refl
  row_sends p row.Unreachable = let a = all_of_error p no_network in omega arith
  row_sends p row.Expired = let a = all_of_error p expired in omega arith
  row_sends p (row.Forward via) = refl
  row_sends p row.Fragment = refl
  row_sends p row.BadIcmp = refl
  row_sends p (row.EchoRequest request) = let a = of_reply SendsAll refl refl refl (λ via x. refl) ifaces table identification (fields_of p) request in omega arith
  row_sends p row.OtherIcmp = refl
  row_sends p row.BadUdp = refl
  row_sends p row.Delivered = refl
  row_sends p row.ClosedPort = let a = all_of_error p no_port in omega arith
  row_sends p row.UnknownProtocol = let a = all_of_error p no_protocol in omega arith

-- what a node does with a packet
module _ (t : TopologyValue) (v : ℕ) (n : NodeStateValue) (x : List ℕ) (w : IsWhole n) where
  -- the row's counter, and then what follows
  abbrev after_row : NodeStateValue
  after_row = state_counted (row_counter (arrival_row (table_of t v) x)) n

  abbrev follows : Consequence
  follows = consequence_of t.ifaces (table_of t v) n.identification (cut_of x) (arrival_row (table_of t v) x)

  row_whole : IsWhole after_row
  row_whole = raised-length (row_counter (arrival_row (table_of t v) x)) n.counters ∙ w

  arrived_whole : IsWhole (arrived t.ifaces (table_of t v) n x).0
  unfolding arrived
  arrived_whole = concluded_whole follows after_row row_whole

  arrived_total : (l : List Counter) → total_of l n + (weight l (row_counter (arrival_row (table_of t v) x)) + added l follows) < 2 ^ 64
      → total_of l (arrived t.ifaces (table_of t v) n x).0 ≡ total_of l n + (weight l (row_counter (arrival_row (table_of t v) x)) + added l follows)
  unfolding arrived
  arrived_total l below =
      let a = raised_totals (row_counter (arrival_row (table_of t v) x)) n.counters w l (omega arith) in
      let b = concluded_total l follows after_row row_whole (omega arith) in
      omega arith

  -- an arrival raises the counter of its row among these
  arrived_counts : (l : List Counter) → OfArrivals l → total_of l n + weight l (row_counter (arrival_row (table_of t v) x)) < 2 ^ 64
      → total_of l (arrived t.ifaces (table_of t v) n x).0 ≡ total_of l n + weight l (row_counter (arrival_row (table_of t v) x))
  arrived_counts l of below =
      let b = row_adds l of t.ifaces (table_of t v) n.identification (cut_of x) (arrival_row (table_of t v) x) in
      let c = arrived_total l (omega arith) in
      omega arith

  -- and one of sendings where something is sent
  arrived_sends : total_of sending_counters n + length (option_list (arrived t.ifaces (table_of t v) n x).1) < 2 ^ 64
      → total_of sending_counters (arrived t.ifaces (table_of t v) n x).0 ≡ total_of sending_counters n + length (option_list (arrived t.ifaces (table_of t v) n x).1)
  unfolding arrived
  arrived_sends below =
      let a = row_sends t.ifaces (table_of t v) n.identification (cut_of x) (arrival_row (table_of t v) x) in
      let b = concluded_sends follows after_row in
      let c = arrived_total sending_counters (omega arith) in
      omega arith

  abbrev IsKept : NodeStateValue × Option (ℕ × List ℕ) → Type 0
  IsKept r = IsWhole r.0

  abbrev CountsSent : NodeStateValue × Option (ℕ × List ℕ) → Type 0
  CountsSent r = total_of sending_counters n + length (option_list r.1) < 2 ^ 64 → total_of sending_counters r.0 ≡ total_of sending_counters n + length (option_list r.1)

  out_sent : (out : Draft) → CountsSent (concluded (originate t.ifaces (table_of t v) n.identification out) n)
  out_sent out below =
      let a = all_of_originate t.ifaces (table_of t v) n.identification out in
      let s = concluded_sends (originate t.ifaces (table_of t v) n.identification out) n in
      let b = concluded_total sending_counters (originate t.ifaces (table_of t v) n.identification out) n w (omega arith) in
      omega arith

  handed_whole : (traffic : Traffic) → IsKept (handed t.ifaces (table_of t v) n traffic x)
  handed_whole (Cbr c) = concluded_whole (originate t.ifaces (table_of t v) n.identification _) n w
  handed_whole (EchoTraffic e) = concluded_whole (originate t.ifaces (table_of t v) n.identification _) n w
  handed_whole (RawTraffic r) = raised-length Raw n.counters ∙ w

  handed_sent : (traffic : Traffic) → CountsSent (handed t.ifaces (table_of t v) n traffic x)
  handed_sent (Cbr c) below = out_sent _ below
  handed_sent (EchoTraffic e) below = out_sent _ below
  handed_sent (RawTraffic r) below = raised_totals Raw n.counters w sending_counters below

  module _ (P : NodeStateValue × Option (ℕ × List ℕ) → Type 0) (nothing : P (n, None)) (some : (traffic : Traffic) → P (handed t.ifaces (table_of t v) n traffic x)) where
    by_source : (o : Option Source) → P (handed_by t v n o x)
    by_source None = nothing
    by_source (Some s) = go (s.node == v)
      where
        go : (b : Bool) → P (cond b (handed t.ifaces (table_of t v) n s.traffic x) (n, None))
        go true = some s.traffic
        go false = nothing

  pub reaction_whole : (o : Origin) → IsWhole (reaction t v n o x).0
  unfolding reaction
  reaction_whole (Arrival i) = arrived_whole
  reaction_whole (FromSource j) = by_source IsKept w handed_whole (slice_get t.sources j)

  -- a packet of a source raises no counter of arrivals
  module _ (l : List Counter) (of : OfArrivals l) where
    abbrev CountsNone : NodeStateValue × Option (ℕ × List ℕ) → Type 0
    CountsNone r = total_of l n + 0 < 2 ^ 64 → total_of l r.0 ≡ total_of l n + 0

    out_none : (out : Draft) → CountsNone (concluded (originate t.ifaces (table_of t v) n.identification out) n)
    out_none out below =
        let a = none_of_originate l of t.ifaces (table_of t v) n.identification out in
        let b = concluded_total l (originate t.ifaces (table_of t v) n.identification out) n w (omega arith) in
        omega arith

    handed_none : (traffic : Traffic) → CountsNone (handed t.ifaces (table_of t v) n traffic x)
    handed_none (Cbr c) below = out_none _ below
    handed_none (EchoTraffic e) below = out_none _ below
    handed_none (RawTraffic r) below = let a = of.raw in let b = raised_totals Raw n.counters w l (omega arith) in omega arith

    pub source_counts : (j : ℕ) → total_of l n + 0 < 2 ^ 64 → total_of l (reaction t v n (FromSource j) x).0 ≡ total_of l n + 0
    unfolding reaction
    source_counts j below = by_source CountsNone (λ b. omega arith) handed_none (slice_get t.sources j) below

    pub arrival_counts : (i : ℕ) → total_of l n + weight l (row_counter (arrival_row (table_of t v) x)) < 2 ^ 64
        → total_of l (reaction t v n (Arrival i) x).0 ≡ total_of l n + weight l (row_counter (arrival_row (table_of t v) x))
    unfolding reaction
    arrival_counts i below = arrived_counts l of below

  pub reaction_sends : (o : Origin) → total_of sending_counters n + length (option_list (reaction t v n o x).1) < 2 ^ 64
      → total_of sending_counters (reaction t v n o x).0 ≡ total_of sending_counters n + length (option_list (reaction t v n o x).1)
  unfolding reaction
  reaction_sends (Arrival i) below = arrived_sends below
  reaction_sends (FromSource j) below = by_source CountsSent (λ b. omega arith) handed_sent (slice_get t.sources j) below

-- at the start nothing is counted
pub first_whole : (t : TopologyValue) (v : ℕ) → IsWhole (first_state t v)
first_whole t v = refl

pub first_arrivals : (t : TopologyValue) (v : ℕ) → total_of arrival_counters (first_state t v) ≡ 0
first_arrivals t v = refl

pub first_row : (t : TopologyValue) (v : ℕ) (r : Row) → total_of (row_counter r ∷ []) (first_state t v) ≡ 0
first_row t v row.BadHeader = refl
first_row t v row.BadDestination = refl
first_row t v row.NotMine = refl
first_row t v row.Unreachable = refl
first_row t v row.Expired = refl
first_row t v (row.Forward via) = refl
first_row t v row.Fragment = refl
first_row t v row.BadIcmp = refl
first_row t v (row.EchoRequest request) = refl
first_row t v row.OtherIcmp = refl
first_row t v row.BadUdp = refl
first_row t v row.Delivered = refl
first_row t v row.ClosedPort = refl
first_row t v row.UnknownProtocol = refl

pub first_sendings : (t : TopologyValue) (v : ℕ) → total_of sending_counters (first_state t v) ≡ 0
first_sendings t v = refl
