-- The lines of interfaces: how many records each has, and the octets of its trace file.
use Rattle.std.specs.Prelude.{◌≡◌, ℕ, ◌<◌, List, ◌++◌, length, slice_get, Some, codes, decimal}
use Rattle.std.specs.List.{enumerate_from, flat_map}
use Rattle.nm_model.specs.Partition.{receiver_of}
use Rattle.nm_topology.specs.PartValues.{IfaceValue}
use Rattle.nm_topology.specs.TopologyValue.{TopologyValue}
use Rattle.nm_sim.specs.Network.{net_of}
use Rattle.nm_sim.specs.Totals.{totals_of}
use Rattle.nm_book.specs.Book.{BookValue, state_of}

abbrev pub iface_line : IfaceValue → ℕ × ℕ → List ℕ
iface_line iface totals =
    codes "iface " ++ iface.name ++ codes " records " ++ decimal totals.0 ++ codes " octets "
    ++ decimal totals.1 ++ codes "\n"

-- those of all interfaces, in the order of the text
abbrev pub iface_lines : (ℕ → ℕ × ℕ) → TopologyValue → List ℕ
iface_lines totals t = flat_map (λ i. iface_line i.1 (totals i.0)) (enumerate_from 0 t.ifaces)

-- book p is one of partition p of this topology, and there is one of each partition
pub record AreOfPartitions (t : TopologyValue) (books : List BookValue) : Type 0 where
  pub count : length books ≡ t.partitions
  pub each : (p : ℕ) (b : BookValue) → slice_get books p ≡ Some b
      → (b.topology ≡ t) × (b.partition ≡ p)

-- each interface has these totals in the book of its partition
abbrev pub AreTotals : TopologyValue → List BookValue → (ℕ → ℕ × ℕ) → Type 0
AreTotals t books totals =
    (i : ℕ) (b : BookValue) → i < length t.ifaces
    → slice_get books (receiver_of (net_of t) i) ≡ Some b
    → totals i ≡ totals_of i (state_of b).records
