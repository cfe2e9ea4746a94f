use Rattle.nm_topology.proofs.Ranges.{document_in_range}
use Rattle.nm_topology.proofs.topology.Topology.read.Goals as goal

pub network-requires : goal.network-requires
network-requires c = document_in_range _ c.in_ok-document.document c.in_ok-document.ensures
