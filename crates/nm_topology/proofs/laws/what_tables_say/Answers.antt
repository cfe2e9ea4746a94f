use Rattle.std.proofs.Common.{refl}
use Rattle.hex.specs.Hex.{decode_pairs}
use Rattle.nm_topology.specs.Parse.Document.{document_of, with_tables}
use Rattle.nm_topology.specs.Parse.Sources.{cbr_of, echo_of, flow_of, packet_of}
use Rattle.nm_topology.specs.Parse.Sources.{raw_of, source_table_of}
use Rattle.nm_topology.specs.Parse.Tables.{iface_table_of, link_table_of, node_table_of}
use Rattle.nm_topology.specs.Parse.Tables.{route_table_of}
use Rattle.nm_topology.proofs.Samples.{host, length_24, network}
use Rattle.nm_topology.proofs.laws.what_tables_say.Goals as goal

pub returns-clause-top : goal.returns-clause-top
unfolding document_of with_tables
returns-clause-top c = (refl, refl)

pub returns-clause-node : goal.returns-clause-node
unfolding node_table_of
returns-clause-node c = (refl, refl, refl)

pub returns-clause-link : goal.returns-clause-link
unfolding link_table_of
returns-clause-link c = (refl, refl)

pub returns-clause-iface : goal.returns-clause-iface
unfolding iface_table_of
returns-clause-iface c = (rw host refl, rw host refl, rw host refl)

pub returns-clause-route : goal.returns-clause-route
unfolding route_table_of
returns-clause-route c = (rw network (rw length_24 refl), rw network (rw length_24 refl))

pub returns-clause-cbr : goal.returns-clause-cbr
unfolding source_table_of cbr_of flow_of
returns-clause-cbr c = (rw host refl, rw host refl, rw host refl, rw host refl)

pub returns-clause-echo : goal.returns-clause-echo
unfolding source_table_of echo_of flow_of
returns-clause-echo c = (rw host refl, rw host refl)

pub returns-clause-raw : goal.returns-clause-raw
unfolding source_table_of raw_of packet_of decode_pairs
returns-clause-raw c = (refl, refl, refl)
