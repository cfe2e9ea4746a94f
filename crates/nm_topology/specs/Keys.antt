-- The keys of a topology text, as a text has them, and its arrays of tables.
use Rattle.std.specs.Prelude.{ℕ, ◌-◌, ◌≤◌, List, [], ◌∷◌, codes, map}
use Rattle.nm_base.specs.declared.limits.TheConstants.{MAX_IFACES, MAX_LINKS, MAX_NODES, MAX_ROUTES, MAX_SOURCES, MAX_TIME}
use Rattle.nm_topology.specs.declared.keys.array.Array.{Array}
use Rattle.nm_topology.specs.declared.keys.array.Array.TheVariants as array
use Rattle.nm_topology.specs.declared.keys.field.Bounds.{Bounds}
use Rattle.nm_topology.specs.declared.keys.field.Field.{Field}
use Rattle.nm_topology.specs.declared.keys.field.Form.TheVariants as form
use Rattle.nm_topology.specs.declared.keys.key.TableKey.{TableKey}
use Rattle.nm_topology.specs.declared.keys.key.TableKey.TheVariants as key

abbrev pub key_text : TableKey → List ℕ
key_text key.Format = codes "format"
key_text key.Stop = codes "stop"
key_text key.Mtu = codes "mtu"
key_text key.Node = codes "node"
key_text key.Iface = codes "iface"
key_text key.Link = codes "link"
key_text key.Route = codes "route"
key_text key.Source = codes "source"
key_text key.Name = codes "name"
key_text key.Kind = codes "kind"
key_text key.Partition = codes "partition"
key_text key.Ports = codes "ports"
key_text key.Address = codes "address"
key_text key.Queue = codes "queue"
key_text key.QueueOctets = codes "queue_octets"
key_text key.A = codes "a"
key_text key.B = codes "b"
key_text key.Rate = codes "rate"
key_text key.Delay = codes "delay"
key_text key.To = codes "to"
key_text key.Via = codes "via"
key_text key.SourcePort = codes "sport"
key_text key.DestinationPort = codes "dport"
key_text key.Identifier = codes "ident"
key_text key.Size = codes "size"
key_text key.Fill = codes "fill"
key_text key.Start = codes "start"
key_text key.Interval = codes "interval"
key_text key.Count = codes "count"
key_text key.Ttl = codes "ttl"
key_text key.Packet = codes "packet"
key_text key.At = codes "at"
key_text key.Data = codes "data"

-- the key of an array
abbrev pub array_key : Array → TableKey
array_key array.Node = key.Node
array_key array.Iface = key.Iface
array_key array.Link = key.Link
array_key array.Route = key.Route
array_key array.Source = key.Source

-- how many tables an array may have
abbrev pub array_limit : Array → ℕ
array_limit array.Node = MAX_NODES
array_limit array.Iface = MAX_IFACES
array_limit array.Link = MAX_LINKS
array_limit array.Route = MAX_ROUTES
array_limit array.Source = MAX_SOURCES

-- the keys of these fields, as a text has them
abbrev pub keys_of : List Field → List (List ℕ)
keys_of fields = map (λ f. key_text f.key) fields

-- a number within the bounds of its key
abbrev pub IsInBounds : Bounds → ℕ → Type 0
IsInBounds b n = (b.least ≤ n) × (n ≤ b.greatest)

-- octets of data of a source's packet: what two headers leave of the mtu
abbrev pub size_under : ℕ → Bounds
size_under mtu = record { least = 0; greatest = mtu - 28 }

-- the time of a packet of a raw source: at least so much
abbrev pub time_from : ℕ → Bounds
time_from least = record { least = least; greatest = MAX_TIME }

-- a table of `packet` whose time is at least so much
abbrev pub packet_table : ℕ → List Field
packet_table least =
    record { key = key.At; form = form.Number (time_from least) }
    ∷ record { key = key.Data; form = form.Octets } ∷ []
