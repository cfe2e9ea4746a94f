-- Which channels run between two partitions.
use Rattle.std.specs.Prelude.{ℕ, zero, suc, Bool, ◌==◌, ◌&&◌, List, [], ◌∷◌, ◌++◌, length, if◌then◌else◌}
use Rattle.nm_model.specs.Partition.{receiver_of, sender_of}
use Rattle.nm_sim.specs.Network.{net_of}
use Rattle.nm_topology.specs.Topology.{receiving_iface}
use Rattle.nm_topology.specs.TopologyValue.{TopologyValue}

-- whether channel c runs from one partition to the other
abbrev pub runs_between : TopologyValue → ℕ → ℕ → ℕ → Bool
runs_between t from to c =
    (sender_of (net_of t) (receiving_iface t c) == from)
    && (receiver_of (net_of t) (receiving_iface t c) == to)

-- those below number n that do, by number
abbrev pub channels_below : TopologyValue → ℕ → ℕ → ℕ → List ℕ
channels_below t from to zero = []
channels_below t from to (suc c) =
    channels_below t from to c ++ (if runs_between t from to c then c ∷ [] else [])

abbrev pub channels_between : TopologyValue → ℕ → ℕ → List ℕ
channels_between t from to = channels_below t from to (length t.receivers)
