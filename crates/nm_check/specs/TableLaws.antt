-- What the lists of fields say of the tables that are read by them.
use Rattle.std.specs.Prelude.{◌≡◌}
use Rattle.toml.specs.Data.{Members}
use Rattle.nm_topology.specs.declared.parse.head.Head.{Head}
use Rattle.nm_topology.specs.Parse.Document.{document_of}
use Rattle.nm_topology.specs.Parse.Sources.{source_table_of}
use Rattle.nm_topology.specs.Parse.Tables.{iface_fields, iface_table_of, link_table_of}
use Rattle.nm_topology.specs.Parse.Tables.{node_table_of, route_table_of}
use Rattle.nm_topology.specs.declared.keys.fields.TheConstants.{LINK_TABLE, NODE_TABLE}
use Rattle.nm_topology.specs.declared.keys.fields.TheConstants.{ROUTE_TABLE, TOP_TABLE}
use Rattle.nm_check.specs.Place.{head_of, source_spot}
use Rattle.nm_check.specs.Reading.{outcome, refused_at, spot_in}

-- whatever kind of table this is read as, it is refused exactly where the list of its fields says,
-- and for what is refused there; the top table with the head that it has itself
pub record IsRefusedAtItsFields (head : Head) (t : Members) : Type 0 where
  pub top : outcome (document_of t) ≡ refused_at (spot_in (head_of t) TOP_TABLE t)
  pub node : outcome (node_table_of t) ≡ refused_at (spot_in head NODE_TABLE t)
  pub iface : outcome (iface_table_of head.format t)
      ≡ refused_at (spot_in head (iface_fields head.format) t)
  pub link : outcome (link_table_of t) ≡ refused_at (spot_in head LINK_TABLE t)
  pub route : outcome (route_table_of t) ≡ refused_at (spot_in head ROUTE_TABLE t)
  pub source : outcome (source_table_of head.mtu t) ≡ refused_at (source_spot head t)
