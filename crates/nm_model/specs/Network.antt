-- An abstract network: its packets P and the states N of its nodes are opaque.
use Rattle.std.specs.Prelude.{◌≡◌, ℕ, suc, ◌<◌, ◌≤◌, Bool, List, Option, Some}
use Rattle.nm_base.specs.declared.key.Place.{Place}
use Rattle.nm_base.specs.declared.key.Place.TheVariants.{Arrive, Complete, Fire}
use Rattle.nm_base.specs.declared.event.Origin.{Origin}

-- nodes, interfaces, partitions and sources by number; times in nanoseconds
pub record Net (P N : Type 0) : Type 0 where
  -- only events before it are run
  pub stop : ℕ
  -- how many interfaces, partitions and sources there are
  pub ifaces : ℕ
  pub parts : ℕ
  pub sources : ℕ
  -- of an interface: its node, the far end of its link, the link's delay, how long a packet's
  -- transmission takes and takes at least, and whether there is room for a packet behind those
  -- that wait
  pub owner : ℕ → ℕ
  pub far_end : ℕ → ℕ
  pub delay : ℕ → ℕ
  pub tx : ℕ → P → ℕ
  pub least_tx : ℕ → ℕ
  pub room : ℕ → List P → P → Bool
  -- of a node: its partition, its state at the start, and what it does with a packet: its
  -- state after, and at most one packet to send
  pub part : ℕ → ℕ
  pub first : ℕ → N
  pub react : ℕ → N → Origin → P → N × Option (ℕ × P)
  -- of a source: its node, and when its packet n comes, and which
  pub source_node : ℕ → ℕ
  pub source : ℕ → ℕ → Option (ℕ × P)

-- what the laws ask of a network
pub record IsNet {P N : Type 0} (net : Net P N) : Type 0 where
  -- a node sends by an interface of its own
  pub own : (v : ℕ) (n : N) (o : Origin) (x : P) (s : ℕ × P) → (net.react v n o x).1 ≡ Some s
      → net.owner s.0 ≡ v
  -- a link has two ends, and a number that names no interface is its own far end
  pub twice : (i : ℕ) → net.far_end (net.far_end i) ≡ i
  pub outside : (i : ℕ) → net.ifaces ≤ i → net.far_end i ≡ i
  -- each transmission takes time
  pub takes_time : (i : ℕ) (x : P) → 1 ≤ net.tx i x
  pub takes_least : (i : ℕ) (x : P) → net.least_tx i ≤ net.tx i x
  -- a source's packets come at strictly rising times
  pub rises : (j n : ℕ) (a b : ℕ × P) → net.source j n ≡ Some a → net.source j (suc n) ≡ Some b
      → a.0 < b.0

-- the interfaces and sources that there are lie in the partitions that there are
pub record IsParted {P N : Type 0} (net : Net P N) : Type 0 where
  pub ifaces : (i : ℕ) → i < net.ifaces → net.part (net.owner i) < net.parts
  pub sources : (j : ℕ) → j < net.sources → net.part (net.source_node j) < net.parts

-- the node at which an event happens
abbrev pub node_of : {P N : Type 0} → Net P N → Place → ℕ
node_of net (Arrive i) = net.owner i
node_of net (Complete i) = net.owner i
node_of net (Fire j) = net.source_node j
