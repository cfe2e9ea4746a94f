-- The tables of a topology text: for each its keys in order, and what is read at each.
use Rattle.std.specs.Prelude.{ℕ, List, [], Result, Ok}
use Rattle.toml.specs.Data.{Members}
use Rattle.nm_base.specs.declared.limits.TheConstants.{MAX_PORTS_OF_NODE}
use Rattle.nm_topology.specs.declared.fault.Refusal.{Refusal}
use Rattle.nm_topology.specs.declared.keys.field.Field.{Field}
use Rattle.nm_topology.specs.declared.keys.fields.TheConstants.{DELAY, IFACE_TABLE_ONE}
use Rattle.nm_topology.specs.declared.keys.fields.TheConstants.{IFACE_TABLE_TWO, LINK_TABLE}
use Rattle.nm_topology.specs.declared.keys.fields.TheConstants.{NODE_TABLE, PARTITION, PORT, QUEUE}
use Rattle.nm_topology.specs.declared.keys.fields.TheConstants.{QUEUE_OCTETS, RATE, ROUTE_TABLE}
use Rattle.nm_topology.specs.declared.keys.key.TableKey.TheVariants as key
use Rattle.nm_topology.specs.declared.parse.head.Format.{Format}
use Rattle.nm_topology.specs.declared.parse.head.Format.TheVariants.{One, Two}
use Rattle.nm_topology.specs.Fault.{◌>>=◌}
use Rattle.nm_topology.specs.Keys.{keys_of}
use Rattle.nm_topology.specs.Parse.Fields.{number_at, number_in, only, optional, some_number_at}
use Rattle.nm_topology.specs.Parse.Fields.{text_at, value_at}
use Rattle.nm_topology.specs.Parse.Arrays.{is_integer, array_of}
use Rattle.nm_topology.specs.Parse.Forms.{name_of, node_kind_of, usable_address_of, prefix_of}
use Rattle.nm_topology.specs.Parse.TableValues.{NodeTableValue, IfaceTableValue, LinkTableValue}
use Rattle.nm_topology.specs.Parse.TableValues.{RouteTableValue}

unfoldable pub node_table_of : Members → Result NodeTableValue Refusal
node_table_of t = do
  known ← only (keys_of NODE_TABLE) t
  name ← text_at name_of key.Name t
  kind ← text_at node_kind_of key.Kind t
  partition ← number_at key.Partition PARTITION t
  ports ← optional [] (array_of is_integer MAX_PORTS_OF_NODE (number_in PORT.least PORT.greatest))
      (value_at key.Ports t)
  Ok (record { name = name; kind = kind; partition = partition; ports = ports })

-- in format 2 the key `queue_octets` is the last one, and may be absent; format 1 does not know it
abbrev pub iface_fields : Format → List Field
iface_fields One = IFACE_TABLE_ONE
iface_fields Two = IFACE_TABLE_TWO

abbrev pub iface_keys : Format → List (List ℕ)
iface_keys format = keys_of (iface_fields format)

unfoldable pub iface_table_of : Format → Members → Result IfaceTableValue Refusal
iface_table_of format t = do
  known ← only (iface_keys format) t
  name ← text_at name_of key.Name t
  node ← text_at name_of key.Node t
  address ← text_at usable_address_of key.Address t
  queue ← number_at key.Queue QUEUE t
  octets ← some_number_at key.QueueOctets QUEUE_OCTETS t
  Ok (record { name = name; node = node; address = address; queue = queue; queue_octets = octets })

unfoldable pub link_table_of : Members → Result LinkTableValue Refusal
link_table_of t = do
  known ← only (keys_of LINK_TABLE) t
  a ← text_at name_of key.A t
  b ← text_at name_of key.B t
  rate ← number_at key.Rate RATE t
  delay ← number_at key.Delay DELAY t
  Ok (record { a = a; b = b; rate = rate; delay = delay })

unfoldable pub route_table_of : Members → Result RouteTableValue Refusal
route_table_of t = do
  known ← only (keys_of ROUTE_TABLE) t
  node ← text_at name_of key.Node t
  to ← text_at prefix_of key.To t
  via ← text_at name_of key.Via t
  Ok (record { node = node; to = to; via = via })
