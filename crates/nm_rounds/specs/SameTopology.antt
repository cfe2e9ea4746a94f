-- When two topologies are the same.
use Rattle.std.specs.Prelude.{◌≡◌, []}
use Rattle.nm_topology.specs.TopologyValue.{TopologyValue}

-- all that a text has, without the digest of its octets
abbrev pub without_digest : TopologyValue → TopologyValue
without_digest t = record t { digest = [] }

abbrev pub SaysSame : TopologyValue → TopologyValue → Type 0
SaysSame a b = without_digest a ≡ without_digest b
