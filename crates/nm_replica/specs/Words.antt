-- Words of a board, by the channels and replicas that raise them.
use Rattle.std.specs.Prelude.{ℕ, ◌/◌, ◌%◌, ◌==◌, ◌&&◌, Bool, length, nat_lt}
use Rattle.nm_model.specs.Partition.{goes_out}
use Rattle.nm_sim.specs.Network.{net_of}
use Rattle.nm_topology.specs.Topology.{receiving_iface}
use Rattle.nm_topology.specs.TopologyValue.{TopologyValue}

-- a word of a board is that of a channel that goes out of this partition, and of this replica
abbrev pub is_word_of : TopologyValue → (partition replica : ℕ) → ℕ → Bool
is_word_of t partition replica word =
    nat_lt (word / 2) (length t.receivers)
    && goes_out (net_of t) partition (receiving_iface t (word / 2)) && (word % 2 == replica)
