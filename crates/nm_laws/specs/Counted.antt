-- What the counters of a node count.
use Rattle.std.specs.Prelude.{◌≡◌, ℕ, ◌^◌, ◌<◌, ◌≤◌, ◌&&◌, ◌==◌, List, [], ◌∷◌, length, sum_by, slice_index}
use Rattle.nm_base.specs.declared.record.Dir.TheVariants.{In}
use Rattle.nm_base.specs.declared.record.Record.{Record}
use Rattle.nm_model.specs.Lists.{keep_where}
use Rattle.nm_model.specs.Network.{Net}
use Rattle.nm_model.specs.Run.{one_list}
use Rattle.nm_model.specs.Trace.{same_dir}
use Rattle.nm_forward.specs.declared.counter.Counter.{Counter}
use Rattle.nm_forward.specs.declared.counter.Counter.TheVariants.{Header, BadDest, NotMine, NoNet, Ttl, Forwarded, Fragment, IcmpBad, Echo, Icmp, UdpBad, Udp, Port, Proto, Originated, Raw}
use Rattle.nm_forward.specs.Counter.{counter_number}
use Rattle.nm_topology.specs.TopologyValue.{TopologyValue}
use Rattle.nm_forward.specs.declared.row.Row.{Row}
use Rattle.nm_forward.specs.Row.{arrival_row, row_counter}
use Rattle.nm_forward.specs.State.{NodeStateValue, table_of}
use Rattle.nm_sim.specs.Network.{net_of}
use Rattle.nm_laws.specs.Offered.{offered_by, offers}

-- the counters of packets that arrived: one for each row of the table
abbrev pub arrival_counters : List Counter
arrival_counters =
    Header ∷ BadDest ∷ NotMine ∷ NoNet ∷ Ttl ∷ Forwarded ∷ Fragment ∷ IcmpBad ∷ Echo ∷ Icmp
    ∷ UdpBad ∷ Udp ∷ Port ∷ Proto ∷ []

-- the counters of what a node sends: what it sends on, what it makes and has a route for, and what
-- its raw sources give to it
abbrev pub sending_counters : List Counter
sending_counters = Forwarded ∷ Originated ∷ Raw ∷ []

-- the sum of these counters of a node
abbrev pub total_of : List Counter → NodeStateValue → ℕ
total_of counters n = sum_by (λ c. slice_index n.counters (counter_number c)) counters

-- the records of arrivals at the interfaces of node v
abbrev pub arrivals_at : {P N : Type 0} → Net P N → ℕ → List (Record P) → List (Record P)
arrivals_at net v records = keep_where (λ r. same_dir r.dir In && (v == net.owner r.iface)) records

-- those that raise this counter, by the row of the table that fits the packet
abbrev pub arrivals_raising : TopologyValue → ℕ → Counter → List (Record (List ℕ))
    → List (Record (List ℕ))
arrivals_raising t v c records =
    keep_where
    (λ r. counter_number c == counter_number
    (row_counter (arrival_row (table_of t v) r.packet))) (arrivals_at (net_of t) v records)

-- What node v counted in the first n events. A counter stops at 2^64 - 1, so this holds if there
-- are fewer packets to count; and there are no more of them than events.
module _ (t : TopologyValue) (n v : ℕ) where
  -- the sum of the counters of arrivals is the number of arrivals
  pub record ArrivalsAreCounted : Type 0 where
    pub few : length (arrivals_at (net_of t) v (one_list (net_of t) n).records) ≤ n
    pub counted : let packets : ℕ = length
        (arrivals_at (net_of t) v (one_list (net_of t) n).records) in
        packets < 2 ^ 64 → total_of arrival_counters ((one_list (net_of t) n).node v) ≡ packets

  -- and the counter of each row is the number of arrivals that the row fits
  pub record RowsAreCounted : Type 0 where
    pub counted : (row : Row)
        → let packets : ℕ = length
        (arrivals_raising t v (row_counter row) (one_list (net_of t) n).records) in
        packets < 2 ^ 64
        → slice_index ((one_list (net_of t) n).node v).counters
        (counter_number (row_counter row)) ≡ packets

  -- the sum of the counters of sendings is the number of packets that the node offered to its
  -- interfaces
  pub record SendingsAreCounted : Type 0 where
    pub few : length (offered_by (net_of t) v (offers (net_of t) n)) ≤ n
    pub counted : let packets : ℕ = length (offered_by (net_of t) v (offers (net_of t) n)) in
        packets < 2 ^ 64 → total_of sending_counters ((one_list (net_of t) n).node v) ≡ packets
