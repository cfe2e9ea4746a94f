-- The top table of a topology text.
use Rattle.std.specs.Prelude.{ℕ, ◌==◌, if◌then◌else◌, Result, Ok}
use Rattle.toml.specs.Data.{Data, Members}
use Rattle.nm_topology.specs.declared.fault.Refusal.{Refusal}
use Rattle.nm_topology.specs.declared.keys.array.Array.TheVariants as array
use Rattle.nm_topology.specs.declared.keys.fields.TheConstants.{FORMAT, MTU, STOP, TOP_TABLE}
use Rattle.nm_topology.specs.declared.keys.key.TableKey.TheVariants as key
use Rattle.nm_topology.specs.declared.parse.head.Format.{Format}
use Rattle.nm_topology.specs.declared.parse.head.Format.TheVariants.{One, Two}
use Rattle.nm_topology.specs.declared.parse.head.Head.{Head}
use Rattle.nm_topology.specs.Fault.{◌>>=◌}
use Rattle.nm_topology.specs.Keys.{keys_of}
use Rattle.nm_topology.specs.Parse.Fields.{number_at, number_in, only, required, value_at}
use Rattle.nm_topology.specs.Parse.Arrays.{tables_at}
use Rattle.nm_topology.specs.Parse.Tables.{node_table_of, iface_table_of, link_table_of}
use Rattle.nm_topology.specs.Parse.Tables.{route_table_of}
use Rattle.nm_topology.specs.Parse.Sources.{source_table_of}
use Rattle.nm_topology.specs.Parse.DocumentValue.{DocumentValue}

-- the format is 1 or 2
abbrev pub format_of : Data → Result Format Refusal
format_of d =
    number_in FORMAT.least FORMAT.greatest d >>= λ n. Ok (if n == 1 then One else Two)

-- the arrays of tables of a text with this head and this `stop`
unfoldable pub with_tables : Head → ℕ → Members → Result DocumentValue Refusal
with_tables head stop t = do
  nodes ← tables_at node_table_of array.Node t
  ifaces ← tables_at (iface_table_of head.format) array.Iface t
  links ← tables_at link_table_of array.Link t
  routes ← tables_at route_table_of array.Route t
  sources ← tables_at (source_table_of head.mtu) array.Source t
  Ok (record {
    stop = stop;
    mtu = head.mtu;
    nodes = nodes;
    ifaces = ifaces;
    links = links;
    routes = routes;
    sources = sources;
  })

unfoldable pub document_of : Members → Result DocumentValue Refusal
document_of t = do
  known ← only (keys_of TOP_TABLE) t
  format ← required format_of (value_at key.Format t)
  stop ← number_at key.Stop STOP t
  mtu ← number_at key.Mtu MTU t
  with_tables (record { format = format; mtu = mtu }) stop t
