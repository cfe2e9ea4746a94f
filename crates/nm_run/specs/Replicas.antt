-- Which replicas a run has, and the peers of each.
use Rattle.std.specs.Prelude.{◌≡◌, ◌⊎◌, ℕ, ◌+◌, ◌*◌, ◌<◌, true, List, [], ◌∷◌, ◌++◌, length, map, slice_get, Some}
use Rattle.nm_model.specs.Partition.{comes_in}
use Rattle.nm_sim.specs.Network.{net_of}
use Rattle.nm_topology.specs.Topology.{receiving_iface}
use Rattle.nm_topology.specs.TopologyValue.{TopologyValue}
use Rattle.nm_peers.specs.declared.listener.Listener.{Listener}

-- The replica with this number, if each partition has so many, is this one, by its partition and
-- its number in that.
pub record IsAt (replicas number : ℕ) (name : ℕ × ℕ) : Type 0 where
  pub replica : name.1 < replicas
  pub number_is : number ≡ name.0 * replicas + name.1

-- one of each partition and each number in that, by partition and then by that number
pub record AreAllReplicas (partitions replicas : ℕ) (names : List (ℕ × ℕ)) : Type 0 where
  pub count : length names ≡ partitions * replicas
  pub each : (i : ℕ) (name : ℕ × ℕ) → slice_get names i ≡ Some name → IsAt replicas i name

-- no two are one replica
abbrev pub HaveDistinctNames : List (ℕ × ℕ) → Type 0
HaveDistinctNames names = (i j : ℕ) (name : ℕ × ℕ) → slice_get names i ≡ Some name
    → slice_get names j ≡ Some name → i ≡ j

-- the replica of a listener
abbrev pub listener_pair : Listener → ℕ × ℕ
listener_pair a = (a.partition, a.replica)

-- one more listener: that of this replica
abbrev pub IsNextListener : (old new : List Listener) → ℕ × ℕ → Type 0
IsNextListener old new name = map listener_pair new ≡ map listener_pair old ++ name ∷ []

-- a word is among these
abbrev pub IsAmong : List ℕ → ℕ → Type 0
IsAmong [] word = ⊥
IsAmong (w ∷ words) word = (w ≡ word) ⊎ IsAmong words word

-- the words of the board of the channels that come into a partition: for each channel, one for each
-- replica of the partition that sends on it
abbrev pub AreWordsOf : TopologyValue → (partition replicas : ℕ) → List ℕ → Type 0
AreWordsOf t partition replicas words =
    (channel replica : ℕ) → channel < length t.receivers
    → comes_in (net_of t) partition (receiving_iface t channel) ≡ true → replica < replicas
    → IsAmong words (2 * channel + replica)
