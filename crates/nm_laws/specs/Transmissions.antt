-- The transmissions over each link in a trace.
use Rattle.std.specs.Prelude.{◌≡◌, ℕ, ◌+◌, ◌<◌, ◌≤◌, ltb, List, length, map, Some}
use Rattle.nm_base.specs.declared.limits.TheConstants.{MAX_PACKET_OCTETS}
use Rattle.nm_base.specs.declared.record.Dir.TheVariants.{In, Out}
use Rattle.nm_base.specs.declared.record.Record.{Record}
use Rattle.nm_topology.specs.TopologyValue.{TopologyValue}
use Rattle.nm_model.specs.Lists.{IsPrefix, keep_where, nth}
use Rattle.nm_model.specs.Trace.{passed}
use Rattle.nm_iface.specs.Transmission.{transmission_time}
use Rattle.nm_sim.specs.Network.{far_of}

-- Each record is of a packet that has 1 to 65,535 octets.
pub record AreOfPackets (records : List (Record (List ℕ))) : Type 0 where
  pub least : (n : ℕ) (r : Record (List ℕ)) → nth records n ≡ Some r → 1 ≤ length r.packet
  pub greatest : (n : ℕ) (r : Record (List ℕ)) → nth records n ≡ Some r
      → length r.packet ≤ MAX_PACKET_OCTETS

-- how long interface i transmits this packet: its octets, at the rate of the link, rounded up to
-- nanoseconds
abbrev pub time_to_transmit : TopologyValue → ℕ → List ℕ → ℕ
time_to_transmit t i packet = transmission_time (far_of t i).rate (length packet)

-- Of two transmissions of one interface the later starts once the earlier is complete.
pub record DoNotOverlap (t : TopologyValue) (records : List (Record (List ℕ))) : Type 0 where
  pub apart : (m n : ℕ) (a b : Record (List ℕ)) → m < n
      → nth records m ≡ Some a → nth records n ≡ Some b → a.dir ≡ Out → b.dir ≡ Out
      → a.iface ≡ b.iface
      → a.time + time_to_transmit t a.iface a.packet ≤ b.time

-- what interface i starts to transmit at this time arrives at the far end once that is complete,
-- and after the link's delay
abbrev pub arrival_of : TopologyValue → ℕ → ℕ × List ℕ → ℕ × List ℕ
arrival_of t i start = (start.0 + time_to_transmit t i start.1 + (far_of t i).delay, start.1)

-- when the packets that the far end of interface i started to transmit arrive at i, in the order
-- of their starts
abbrev pub arrivals_due : TopologyValue → List (Record (List ℕ)) → ℕ → List (ℕ × List ℕ)
arrivals_due t records i =
    let j : ℕ = (far_of t i).iface in map (arrival_of t j) (passed Out j records)

-- What arrived at an interface are the first of the packets that its far end started to
-- transmit, each when it was due.
pub record ArriveInOrder (t : TopologyValue) (records : List (Record (List ℕ))) : Type 0 where
  pub first : (i : ℕ) → IsPrefix (passed In i records) (arrivals_due t records i)

-- All that were due before this time arrived, and no others.
pub record AllArrive (t : TopologyValue) (before : ℕ)
    (records : List (Record (List ℕ))) : Type 0 where
  pub all : (i : ℕ)
      → passed In i records ≡ keep_where (λ a. ltb a.0 before) (arrivals_due t records i)
