use Rattle.nm_check.proofs.Documents.{top_table}
use Rattle.nm_check.proofs.Tables.{iface_table, link_table, node_table, route_table, source_table}
use Rattle.nm_check.proofs.laws.tables_are_refused_at_their_fields.Goals as goal

pub returns : goal.returns
returns c = λ head t. record {
  top = top_table t;
  node = node_table head t;
  iface = iface_table head.format head t;
  link = link_table head t;
  route = route_table head t;
  source = source_table head t;
}
