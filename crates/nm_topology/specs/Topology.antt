-- A topology text is read to this network, or to its first refusal.
use Rattle.nm_base.specs.declared.limits.TheConstants.{MAX_TEXT_OCTETS}
use Rattle.nm_topology.specs.Parse.Document.{document_of}
use Rattle.nm_topology.specs.Parse.DocumentValue.{DocumentValue}
use Rattle.nm_topology.specs.Fault.{◌>>=◌, demand}
use Rattle.nm_topology.specs.declared.fault.Refusal.{Refusal}
use Rattle.nm_topology.specs.declared.fault.Refusal.TheVariants.{Range}
use Rattle.sha2.specs.Sha256.{sha256}
use Rattle.std.specs.Prelude.{ℕ, ◌==◌, if◌then◌else◌, List, [], ◌∷◌, Option, Some, None, Result, Ok}
use Rattle.std.specs.Prelude.{suc, map, nat_le, length, slice_index_or}
use Rattle.nm_topology.specs.Build.{put_together}
use Rattle.nm_topology.specs.Parse.{top_table_of}
use Rattle.nm_topology.specs.Resolve.{resolved}
use Rattle.nm_topology.specs.TopologyValue.{TopologyValue}
use Rattle.nm_topology.specs.Validate.{tested}

-- the channel that comes in at the interface, of those that are numbered from n on
abbrev pub channel_from : ℕ → List ℕ → ℕ → Option ℕ
channel_from n [] iface = None
channel_from n (r ∷ rs) iface = if r == iface then Some n else channel_from (suc n) rs iface

-- the interface at which the channel comes in; for a number past the last channel the number of
-- interfaces, at which there is none
abbrev pub receiving_iface : TopologyValue → ℕ → ℕ
receiving_iface t channel = slice_index_or t.receivers channel (length t.ifaces)

unfoldable pub network_of : List ℕ → DocumentValue → Result TopologyValue Refusal
network_of digest d = do
  t ← resolved d.nodes d.ifaces d.links d.routes d.sources
  good ← tested (map (λ n. n.partition) d.nodes) (map (λ i. i.address) d.ifaces)
      (length d.nodes) (length d.ifaces) t
  Ok (put_together digest d t)

-- what a topology text is read to
unfoldable pub topology_of : List ℕ → Result TopologyValue Refusal
topology_of text = do
  short ← demand (nat_le (length text) MAX_TEXT_OCTETS) Range
  members ← top_table_of text
  document ← document_of members
  network_of (sha256 text) document
