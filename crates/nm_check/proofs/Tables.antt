-- The fields of each kind of table are refused as its reader refuses it.
use Rattle.std.proofs.Common.{◌≡◌, Bool, true, List, drop, [], None, Result}
use Rattle.std.proofs.Common.{Ok, Err, refl, sym, ap, ◌∙◌}
use Rattle.std.specs.Prelude.{codes, if◌then◌else◌}
use Rattle.toml.specs.Data.{Members, table}
use Rattle.nm_base.specs.declared.limits.TheConstants.{MAX_PORTS_OF_NODE}
use Rattle.nm_topology.specs.declared.fault.Refusal.{Refusal}
use Rattle.nm_topology.specs.declared.fault.Refusal.TheVariants.{UnknownKey}
use Rattle.nm_topology.specs.declared.parse.head.Format.{Format}
use Rattle.nm_topology.specs.declared.parse.head.Format.TheVariants.{One, Two}
use Rattle.nm_topology.specs.declared.parse.head.Head.{Head}
use Rattle.nm_topology.specs.declared.parse.sources.NamedTraffic.TheVariants.{Cbr as NamedCbr}
use Rattle.nm_topology.specs.declared.parse.sources.NamedTraffic.TheVariants.{Echo as NamedEcho}
use Rattle.nm_topology.specs.declared.parse.sources.NamedTraffic.TheVariants.{Raw as NamedRaw}
use Rattle.nm_topology.specs.declared.parse.sources.SourceKind.{SourceKind}
use Rattle.nm_topology.specs.declared.parse.sources.SourceKind.TheVariants.{Cbr as CbrKind}
use Rattle.nm_topology.specs.declared.parse.sources.SourceKind.TheVariants.{Echo as EchoKind}
use Rattle.nm_topology.specs.declared.parse.sources.SourceKind.TheVariants.{Raw as RawKind}
use Rattle.nm_topology.specs.declared.traffic.Flow.{Flow}
use Rattle.nm_topology.specs.Fault.{◌>>=◌}
use Rattle.nm_topology.specs.Parse.Arrays.{array_of, is_integer}
use Rattle.nm_topology.specs.Keys.{keys_of, size_under}
use Rattle.nm_topology.specs.Parse.Fields.{all_among, number_at, number_in, number_or}
use Rattle.nm_topology.specs.Parse.Fields.{optional, required}
use Rattle.nm_topology.specs.Parse.Fields.{some_number_at, some_number_in, text_at, value_at}
use Rattle.nm_topology.specs.Parse.Forms.{name_of, node_kind_of, prefix_of, usable_address_of}
use Rattle.nm_topology.specs.Parse.Sources.{cbr_of, echo_of, fields_of_kind, flow_of, packets_of}
use Rattle.nm_topology.specs.Parse.Sources.{raw_of, source_by, named_traffic_of}
use Rattle.nm_topology.specs.Parse.Sources.{source_kind_of, source_table_of}
use Rattle.nm_topology.specs.Parse.SourceTableValue.{SourceTableValue}
use Rattle.nm_topology.specs.Parse.Tables.{iface_fields, iface_keys, iface_table_of, link_table_of}
use Rattle.nm_topology.specs.Parse.Tables.{node_table_of, route_table_of}
use Rattle.nm_topology.specs.Parse.TableValues.{IfaceTableValue, LinkTableValue, NodeTableValue}
use Rattle.nm_topology.specs.Parse.TableValues.{RouteTableValue}
use Rattle.nm_topology.specs.declared.keys.array.Array.{Array}
use Rattle.nm_topology.specs.declared.keys.array.Array.TheVariants as array
use Rattle.nm_topology.specs.declared.keys.field.Field.{Field}
use Rattle.nm_topology.specs.declared.keys.field.Form.TheVariants as form
use Rattle.nm_topology.specs.declared.keys.fields.TheConstants.{CBR_TABLE, COUNT, DELAY}
use Rattle.nm_topology.specs.declared.keys.fields.TheConstants.{FILL, IDENTIFIER, IFACE_TABLE_ONE}
use Rattle.nm_topology.specs.declared.keys.fields.TheConstants.{IFACE_TABLE_TWO, INTERVAL, LINK_TABLE}
use Rattle.nm_topology.specs.declared.keys.fields.TheConstants.{NODE_TABLE, PARTITION, PORT, QUEUE}
use Rattle.nm_topology.specs.declared.keys.fields.TheConstants.{QUEUE_OCTETS, RATE}
use Rattle.nm_topology.specs.declared.keys.fields.TheConstants.{ROUTE_TABLE, START, TTL}
use Rattle.nm_topology.specs.declared.keys.key.TableKey.TheVariants as key
use Rattle.nm_check.specs.Place.{fields_by_kind, item_of, or_spot, source_spot}
use Rattle.nm_check.specs.Place.{spot_of}
use Rattle.nm_check.specs.Reading.{fault_or, outcome, refused_at, spot_in}
use Rattle.nm_check.proofs.Steps.{absent, bind-unit, chain, five, four, four-fields, outcome-optional}
use Rattle.nm_check.proofs.Steps.{outcome-some_number, six, spot-chain, three, three-fields, two}

pub node_table : (head : Head) (t : Members) → outcome (node_table_of t) ≡ refused_at (spot_in head NODE_TABLE t)
unfolding node_table_of
node_table head t =
    let ports = optional [] (array_of is_integer MAX_PORTS_OF_NODE (number_in PORT.least PORT.greatest)) (value_at key.Ports t) in
    four-fields (all_among (keys_of NODE_TABLE) t) (text_at name_of key.Name t) (text_at node_kind_of key.Kind t) (number_at key.Partition PARTITION t) ports
    (λ name kind partition ports. let n : NodeTableValue = record { name = name; kind = kind; partition = partition; ports = ports } in n)
    ∙ spot-chain head t NODE_TABLE

pub link_table : (head : Head) (t : Members) → outcome (link_table_of t) ≡ refused_at (spot_in head LINK_TABLE t)
unfolding link_table_of
link_table head t =
    four-fields (all_among (keys_of LINK_TABLE) t) (text_at name_of key.A t) (text_at name_of key.B t) (number_at key.Rate RATE t) (number_at key.Delay DELAY t)
    (λ a b rate delay. let l : LinkTableValue = record { a = a; b = b; rate = rate; delay = delay } in l)
    ∙ spot-chain head t LINK_TABLE

pub route_table : (head : Head) (t : Members) → outcome (route_table_of t) ≡ refused_at (spot_in head ROUTE_TABLE t)
unfolding route_table_of
route_table head t =
    three-fields (all_among (keys_of ROUTE_TABLE) t) (text_at name_of key.Node t) (text_at prefix_of key.To t) (text_at name_of key.Via t)
    (λ node to via. let r : RouteTableValue = record { node = node; to = to; via = via } in r)
    ∙ spot-chain head t ROUTE_TABLE

-- a table of `iface`, whose last field has this outcome where its keys are known
iface_table_as : (format : Format) (t : Members) (o : Result Unit Refusal) → (all_among (iface_keys format) t ≡ true → outcome (some_number_at key.QueueOctets QUEUE_OCTETS t) ≡ o)
    → outcome (iface_table_of format t) ≡ (if all_among (iface_keys format) t then (outcome (text_at name_of key.Name t) >>= λ u. outcome (text_at name_of key.Node t) >>= λ u. outcome (text_at usable_address_of key.Address t) >>= λ u. outcome (number_at key.Queue QUEUE t) >>= λ u. o) else Err UnknownKey)
unfolding iface_table_of
iface_table_as format t o e =
    five (all_among (iface_keys format) t) (text_at name_of key.Name t) (text_at name_of key.Node t) (text_at usable_address_of key.Address t) (number_at key.Queue QUEUE t)
    (some_number_at key.QueueOctets QUEUE_OCTETS t)
    (λ name node address queue octets. let i : IfaceTableValue = record { name = name; node = node; address = address; queue = queue; queue_octets = octets } in i)
    o e

pub iface_table : (format : Format) (head : Head) (t : Members) → outcome (iface_table_of format t) ≡ refused_at (spot_in head (iface_fields format) t)
iface_table One head t =
    iface_table_as One t (Ok tt) (λ among. ap (λ v. outcome (optional None (some_number_in QUEUE_OCTETS.least QUEUE_OCTETS.greatest) v)) (absent (codes "queue_octets") (iface_keys One) refl t among))
    ∙ spot-chain head t IFACE_TABLE_ONE
iface_table Two head t =
    let octets = outcome (number_or 0 key.QueueOctets QUEUE_OCTETS t) in
    iface_table_as Two t (octets >>= λ u. Ok tt) (λ among. outcome-some_number QUEUE_OCTETS.least QUEUE_OCTETS.greatest (value_at key.QueueOctets t) ∙ sym (bind-unit octets))
    ∙ spot-chain head t IFACE_TABLE_TWO

-- the kind of a source, and the fields that sources share
abbrev source_kind : Field
source_kind = record { key = key.Kind; form = form.SourceKind }

abbrev flow_fields : List Field
flow_fields = drop 5 CBR_TABLE

flow : (head : Head) (t : Members) → outcome (flow_of head.mtu t) ≡ chain head t flow_fields
unfolding flow_of
flow head t =
    let ttl = outcome (number_or 0 key.Ttl TTL t) in
    six (number_at key.Size (size_under head.mtu) t) (number_or 0 key.Fill FILL t) (number_at key.Start START t) (number_at key.Interval INTERVAL t) (number_at key.Count COUNT t) (number_or 64 key.Ttl TTL t)
    (λ size fill start interval count ttl. let f : Flow = record { size = size; fill = fill; start = start; interval = interval; count = count; ttl = ttl } in f)
    (ttl >>= λ u. Ok tt) (outcome-optional 64 TTL.least TTL.greatest (value_at key.Ttl t) ∙ sym (bind-unit ttl))

-- what is read of a source behind its kind and its node
traffic : (head : Head) (t : Members) (kind : SourceKind) → outcome (named_traffic_of kind head.mtu t) ≡ chain head t (drop 2 (fields_of_kind kind))
unfolding cbr_of echo_of raw_of
traffic head t CbrKind =
    four true (text_at usable_address_of key.To t) (number_at key.SourcePort PORT t) (number_at key.DestinationPort PORT t) (flow_of head.mtu t)
    (λ to source destination flow. NamedCbr (record { to = to; source_port = source; destination_port = destination; flow = flow }))
    (chain head t flow_fields) (flow head t)
traffic head t EchoKind =
    three true (text_at usable_address_of key.To t) (number_at key.Identifier IDENTIFIER t) (flow_of head.mtu t)
    (λ to identifier flow. NamedEcho (record { to = to; identifier = identifier; flow = flow }))
    (chain head t flow_fields) (flow head t)
traffic head t RawKind =
    let packets = required (packets_of head.mtu) (value_at key.Packet t) in
    two true (text_at name_of key.Via t) packets (λ via packets. NamedRaw (record { via = via; packets = packets }))
    (outcome packets >>= λ u. Ok tt) (sym (bind-unit (outcome packets)))

-- the fields of a source: its kind, its node, and the others
source_chain : (head : Head) (t : Members) (kind : SourceKind) → chain head t (fields_of_kind kind)
    ≡ (outcome (text_at source_kind_of key.Kind t) >>= λ u. outcome (text_at name_of key.Node t) >>= λ u. chain head t (drop 2 (fields_of_kind kind)))
source_chain head t CbrKind = refl
source_chain head t EchoKind = refl
source_chain head t RawKind = refl

-- a source, by what stands at its kind
by_kind : (head : Head) (t : Members) (r : Result SourceKind Refusal) → text_at source_kind_of key.Kind t ≡ r → outcome (r >>= λ kind. source_by kind head.mtu t) ≡ refused_at (or_spot (fault_or source_kind (outcome r) None) (spot_in head (fields_by_kind r) t))
by_kind head t (Ok kind) e =
    let known = all_among (keys_of (fields_of_kind kind)) t in
    let node = text_at name_of key.Node t in
    let rest = chain head t (drop 2 (fields_of_kind kind)) in
    let read : (outcome node >>= λ u. rest) ≡ chain head t (fields_of_kind kind) =
    ap (λ o. o >>= λ u. outcome node >>= λ u. rest) (sym (ap outcome e)) ∙ sym (source_chain head t kind) in
    two known node (named_traffic_of kind head.mtu t)
    (λ node traffic. let s : SourceTableValue = record { node = node; traffic = traffic } in s)
    rest (traffic head t kind)
    ∙ ap (λ o. if known then o else Err UnknownKey) read
    ∙ spot-chain head t (fields_of_kind kind)
by_kind head t (Err r) e = refl

pub source_table : (head : Head) (t : Members) → outcome (source_table_of head.mtu t) ≡ refused_at (source_spot head t)
unfolding source_table_of
source_table head t = by_kind head t (text_at source_kind_of key.Kind t) refl

-- a table is refused where the fields of its array say, and for what is refused there
pub item-table : (head : Head) (a : Array) (t : Members) → item_of head a (table t) ≡ refused_at (spot_of head a t)
item-table head array.Node t = node_table head t
item-table head array.Iface t = iface_table head.format head t
item-table head array.Link t = link_table head t
item-table head array.Route t = route_table head t
item-table head array.Source t = source_table head t
