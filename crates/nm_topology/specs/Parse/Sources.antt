-- The tables of `source`: for each kind its keys in order, and what is read at each.
use Rattle.std.specs.Prelude.{ℕ, ◌+◌, ◌&&◌, nat_le, if◌then◌else◌, List, [], ◌∷◌, length}
use Rattle.std.specs.Prelude.{Option, Some, None, Result, Ok, Err, codes}
use Rattle.std.specs.Str.{bytes_eq}
use Rattle.toml.specs.Data.{Data, array, Items, no_items, item, Members}
use Rattle.hex.specs.Hex.{decode_of}
use Rattle.hex.specs.declared.error.FromHexError.{FromHexError}
use Rattle.nm_base.specs.declared.limits.TheConstants.{MAX_RAW_PACKETS}
use Rattle.nm_topology.specs.declared.fault.Refusal.{Refusal}
use Rattle.nm_topology.specs.declared.fault.Refusal.TheVariants.{Hex, Kind, Range, TooMany}
use Rattle.nm_topology.specs.declared.keys.field.Field.{Field}
use Rattle.nm_topology.specs.declared.keys.fields.TheConstants.{CBR_TABLE, COUNT, ECHO_TABLE, FILL}
use Rattle.nm_topology.specs.declared.keys.fields.TheConstants.{IDENTIFIER, INTERVAL, PORT}
use Rattle.nm_topology.specs.declared.keys.fields.TheConstants.{RAW_TABLE, START, TTL}
use Rattle.nm_topology.specs.declared.keys.key.TableKey.TheVariants as key
use Rattle.nm_topology.specs.declared.traffic.Flow.{Flow}
use Rattle.nm_topology.specs.declared.traffic.RawPacket.{RawPacket}
use Rattle.nm_topology.specs.Fault.{◌>>=◌}
use Rattle.nm_topology.specs.Keys.{keys_of, packet_table, size_under, time_from}
use Rattle.nm_topology.specs.Parse.Fields.{number_at, number_or, only, plain_text, required, text_at}
use Rattle.nm_topology.specs.Parse.Fields.{value_at}
use Rattle.nm_topology.specs.Parse.Arrays.{is_table, all_fit, count, in_table}
use Rattle.nm_topology.specs.Parse.Forms.{name_of, usable_address_of}
use Rattle.nm_topology.specs.declared.parse.sources.NamedTraffic.{NamedTraffic}
use Rattle.nm_topology.specs.declared.parse.sources.NamedTraffic.TheVariants.{Cbr as NamedCbr}
use Rattle.nm_topology.specs.declared.parse.sources.NamedTraffic.TheVariants.{Echo as NamedEcho}
use Rattle.nm_topology.specs.declared.parse.sources.NamedTraffic.TheVariants.{Raw as NamedRaw}
use Rattle.nm_topology.specs.declared.parse.sources.SourceKind.{SourceKind}
use Rattle.nm_topology.specs.declared.parse.sources.SourceKind.TheVariants.{Cbr as CbrKind}
use Rattle.nm_topology.specs.declared.parse.sources.SourceKind.TheVariants.{Echo as EchoKind}
use Rattle.nm_topology.specs.declared.parse.sources.SourceKind.TheVariants.{Raw as RawKind}
use Rattle.nm_topology.specs.Parse.SourceTableValue.{SourceTableValue}

abbrev pub decoded : ℕ → Result (List ℕ) FromHexError → Result (List ℕ) Refusal
decoded mtu (Ok octets) =
    if nat_le 1 (length octets) && nat_le (length octets) mtu then Ok octets else Err Range
decoded mtu (Err e) = Err Hex

-- hexadecimal, 1 to mtu octets
abbrev pub octets_of : ℕ → Data → Result (List ℕ) Refusal
octets_of mtu d = plain_text d >>= λ s. decoded mtu (decode_of s)

unfoldable pub packet_of : ℕ → ℕ → Members → Result RawPacket Refusal
packet_of mtu least t = do
  known ← only (keys_of (packet_table least)) t
  at ← number_at key.At (time_from least) t
  octets ← required (octets_of mtu) (value_at key.Data t)
  Ok (record { at = at; packet = octets })

-- packets one after another, each later than the one before
abbrev pub packets_from : ℕ → ℕ → Items → Result (List RawPacket) Refusal
packets_from mtu least no_items = Ok []
packets_from mtu least (item d ds) =
    in_table (packet_of mtu least) d >>= λ p.
    packets_from mtu (p.at + 1) ds >>= λ ps.
    Ok (p ∷ ps)

abbrev pub packets_of : ℕ → Data → Result (List RawPacket) Refusal
packets_of mtu (array ds) =
    if all_fit is_table ds
    then (if nat_le (count ds) MAX_RAW_PACKETS then packets_from mtu 0 ds else Err TooMany)
    else Err Kind
packets_of mtu _ = Err Kind

-- the keys that UDP and echo sources share, but for those before them
unfoldable pub flow_of : ℕ → Members → Result Flow Refusal
flow_of mtu t = do
  size ← number_at key.Size (size_under mtu) t
  fill ← number_or 0 key.Fill FILL t
  start ← number_at key.Start START t
  interval ← number_at key.Interval INTERVAL t
  count ← number_at key.Count COUNT t
  ttl ← number_or 64 key.Ttl TTL t
  Ok (record {
    size = size;
    fill = fill;
    start = start;
    interval = interval;
    count = count;
    ttl = ttl;
  })

-- the packets by the keys of a kind
unfoldable pub cbr_of : ℕ → Members → Result NamedTraffic Refusal
cbr_of mtu t = do
  to ← text_at usable_address_of key.To t
  source ← number_at key.SourcePort PORT t
  destination ← number_at key.DestinationPort PORT t
  flow ← flow_of mtu t
  Ok (NamedCbr (record {
    to = to;
    source_port = source;
    destination_port = destination;
    flow = flow;
  }))

unfoldable pub echo_of : ℕ → Members → Result NamedTraffic Refusal
echo_of mtu t = do
  to ← text_at usable_address_of key.To t
  identifier ← number_at key.Identifier IDENTIFIER t
  flow ← flow_of mtu t
  Ok (NamedEcho (record { to = to; identifier = identifier; flow = flow }))

unfoldable pub raw_of : ℕ → Members → Result NamedTraffic Refusal
raw_of mtu t = do
  via ← text_at name_of key.Via t
  packets ← required (packets_of mtu) (value_at key.Packet t)
  Ok (NamedRaw (record { via = via; packets = packets }))

abbrev pub named_traffic_of : SourceKind → ℕ → Members → Result NamedTraffic Refusal
named_traffic_of CbrKind mtu t = cbr_of mtu t
named_traffic_of EchoKind mtu t = echo_of mtu t
named_traffic_of RawKind mtu t = raw_of mtu t

-- the fields of a table, by its kind
abbrev pub fields_of_kind : SourceKind → List Field
fields_of_kind CbrKind = CBR_TABLE
fields_of_kind EchoKind = ECHO_TABLE
fields_of_kind RawKind = RAW_TABLE

abbrev pub source_kind_of : List ℕ → Option SourceKind
source_kind_of text =
    if bytes_eq text (codes "cbr") then Some CbrKind
    else (if bytes_eq text (codes "echo") then Some EchoKind
    else (if bytes_eq text (codes "raw") then Some RawKind else None))

abbrev pub source_by : SourceKind → ℕ → Members → Result SourceTableValue Refusal
source_by kind mtu t = do
  known ← only (keys_of (fields_of_kind kind)) t
  node ← text_at name_of key.Node t
  traffic ← named_traffic_of kind mtu t
  Ok (record { node = node; traffic = traffic })

-- the kind is read before all else
unfoldable pub source_table_of : ℕ → Members → Result SourceTableValue Refusal
source_table_of mtu t = do
  kind ← text_at source_kind_of key.Kind t
  source_by kind mtu t
