-- What is read from a text is in range.
use Rattle.std.proofs.Common.{◌≡◌, ℕ, ◌≤◌, List, [], length, Option, Some, None, IfSome}
use Rattle.std.proofs.Common.{Result, Ok, Err, subst, arith}
use Rattle.toml.specs.Data.{Data, Members}
use Rattle.nm_base.specs.declared.limits.TheConstants.{MAX_PORTS_OF_NODE}
use Rattle.nm_topology.specs.declared.fault.Refusal.{Refusal}
use Rattle.nm_topology.specs.declared.keys.array.Array.TheVariants as array
use Rattle.nm_topology.specs.declared.keys.field.Bounds.{Bounds}
use Rattle.nm_topology.specs.declared.keys.fields.TheConstants.{DELAY, LINK_TABLE, MTU, NODE_TABLE}
use Rattle.nm_topology.specs.declared.keys.fields.TheConstants.{PARTITION, PORT, QUEUE, QUEUE_OCTETS}
use Rattle.nm_topology.specs.declared.keys.fields.TheConstants.{RATE, STOP, TOP_TABLE}
use Rattle.nm_topology.specs.declared.keys.key.TableKey.TheVariants as key
use Rattle.nm_topology.specs.declared.parse.head.Format.{Format}
use Rattle.std.proofs.lemmas.List.Elements.{All-weaker}
use Rattle.nm_topology.specs.declared.node.NodeKind.{NodeKind}
use Rattle.nm_topology.specs.Fault.{◌>>=◌}
use Rattle.nm_topology.specs.Keys.{IsInBounds, array_limit, keys_of}
use Rattle.nm_topology.specs.Parse.Fields.{number_at, number_in, only, optional, required}
use Rattle.nm_topology.specs.Parse.Fields.{some_number_at, some_number_in, text_at, value_at}
use Rattle.nm_topology.specs.Parse.Arrays.{is_integer, is_table, in_table, array_of, tables_at}
use Rattle.nm_topology.specs.Parse.Forms.{name_of, node_kind_of, usable_address_of}
use Rattle.nm_topology.specs.Parse.TableValues.{NodeTableValue, IfaceTableValue, LinkTableValue}
use Rattle.nm_topology.specs.Parse.TableValues.{RouteTableValue}
use Rattle.nm_topology.specs.Parse.SourceTableValue.{SourceTableValue}
use Rattle.nm_topology.specs.Parse.Tables.{iface_keys, node_table_of, iface_table_of, link_table_of}
use Rattle.nm_topology.specs.Parse.Tables.{route_table_of}
use Rattle.nm_topology.specs.Parse.Sources.{source_table_of}
use Rattle.nm_topology.specs.Parse.DocumentValue.{DocumentValue}
use Rattle.nm_topology.specs.Parse.Document.{document_of, format_of, with_tables}
use Rattle.nm_topology.specs.Parse.Ranges.{IsLinkInRange, FitsNamedTraffic, IsInRange}
use Rattle.nm_topology.proofs.Steps.{step, number-within, required-within, optional-holds}
use Rattle.nm_topology.proofs.Steps.{in_table-holds}
use Rattle.nm_topology.proofs.Flows.{source-fits}

node-read : (known : Result Unit Refusal) (name : Result (List ℕ) Refusal) (kind : Result NodeKind Refusal) (partition : Result ℕ Refusal) (ports : Result (List ℕ) Refusal) (n : NodeTableValue) → (known >>= λ k. name >>= λ a. kind >>= λ b. partition >>= λ c. ports >>= λ d. Ok (record { name = a; kind = b; partition = c; ports = d })) ≡ Ok n → ports ≡ Ok n.ports
node-read (Ok k) (Ok a) (Ok b) (Ok c) (Ok d) n e = cc
node-read (Ok k) (Ok a) (Ok b) (Ok c) (Err r) n e = cc
node-read (Ok k) (Ok a) (Ok b) (Err r) ports n e = cc
node-read (Ok k) (Ok a) (Err r) partition ports n e = cc
node-read (Ok k) (Err r) kind partition ports n e = cc
node-read (Err r) name kind partition ports n e = cc

node_in_range : (t : Members) (n : NodeTableValue) → node_table_of t ≡ Ok n → length n.ports ≤ MAX_PORTS_OF_NODE
unfolding node_table_of
node_in_range t n e =
    let ports = node-read (only (keys_of NODE_TABLE) t)
    (text_at name_of key.Name t) (text_at node_kind_of key.Kind t)
    (number_at key.Partition PARTITION t)
    (optional [] (array_of is_integer MAX_PORTS_OF_NODE (number_in PORT.least PORT.greatest)) (value_at key.Ports t)) n e in
    let few = optional-holds (λ p. Unit {0}) is_integer MAX_PORTS_OF_NODE (number_in PORT.least PORT.greatest) (λ d x h. tt) (value_at key.Ports t) n.ports ports in
    few.1

iface-read : (known : Result Unit Refusal) (name node : Result (List ℕ) Refusal) (address queue : Result ℕ Refusal) (octets : Result (Option ℕ) Refusal) (i : IfaceTableValue) → (known >>= λ k. name >>= λ a. node >>= λ b. address >>= λ c. queue >>= λ d. octets >>= λ f. Ok (record { name = a; node = b; address = c; queue = d; queue_octets = f })) ≡ Ok i → (queue ≡ Ok i.queue) × (octets ≡ Ok i.queue_octets)
iface-read (Ok k) (Ok a) (Ok b) (Ok c) (Ok d) (Ok f) i e = (cc, cc)
iface-read (Ok k) (Ok a) (Ok b) (Ok c) (Ok d) (Err r) i e = cc
iface-read (Ok k) (Ok a) (Ok b) (Ok c) (Err r) octets i e = cc
iface-read (Ok k) (Ok a) (Ok b) (Err r) queue octets i e = cc
iface-read (Ok k) (Ok a) (Err r) address queue octets i e = cc
iface-read (Ok k) (Err r) node address queue octets i e = cc
iface-read (Err r) name node address queue octets i e = cc

some-within : (b : Bounds) (o : Option Data) (n : Option ℕ) → optional None (some_number_in b.least b.greatest) o ≡ Ok n → IfSome n (IsInBounds b)
some-within b None n e = let none : ◌≡◌ {A = Option ℕ} None n = cc in subst (λ m. IfSome m (IsInBounds b)) none tt
some-within b (Some d) n e =
    let a = step (number_in b.least b.greatest d) (λ m. Ok (Some m)) n e in
    let some : Some a.0 ≡ n = cc (a.2) in
    subst (λ m. IfSome m (IsInBounds b)) some (number-within b.least b.greatest a.0 d a.1)

abbrev IsQueued : IfaceTableValue → Type 0
IsQueued i = IsInBounds QUEUE i.queue × IfSome i.queue_octets (IsInBounds QUEUE_OCTETS)

iface_in_range : (format : Format) (t : Members) (i : IfaceTableValue) → iface_table_of format t ≡ Ok i → IsQueued i
unfolding iface_table_of
iface_in_range format t i e =
    let read = iface-read (only (iface_keys format) t)
    (text_at name_of key.Name t) (text_at name_of key.Node t)
    (text_at usable_address_of key.Address t) (number_at key.Queue QUEUE t)
    (some_number_at key.QueueOctets QUEUE_OCTETS t) i e in
    let within = required-within QUEUE.least QUEUE.greatest i.queue (value_at key.Queue t) read.0 in
    (within, some-within QUEUE_OCTETS (value_at key.QueueOctets t) i.queue_octets read.1)

link-read : (known : Result Unit Refusal) (a b : Result (List ℕ) Refusal) (rate delay : Result ℕ Refusal) (l : LinkTableValue) → (known >>= λ k. a >>= λ x. b >>= λ y. rate >>= λ r. delay >>= λ d. Ok (record { a = x; b = y; rate = r; delay = d })) ≡ Ok l → (rate ≡ Ok l.rate) × (delay ≡ Ok l.delay)
link-read (Ok k) (Ok x) (Ok y) (Ok r) (Ok d) l e = (cc, cc)
link-read (Ok k) (Ok x) (Ok y) (Ok r) (Err q) l e = cc
link-read (Ok k) (Ok x) (Ok y) (Err q) delay l e = cc
link-read (Ok k) (Ok x) (Err q) rate delay l e = cc
link-read (Ok k) (Err q) b rate delay l e = cc
link-read (Err q) a b rate delay l e = cc

link_in_range : (t : Members) (l : LinkTableValue) → link_table_of t ≡ Ok l → IsLinkInRange l
unfolding link_table_of
link_in_range t l e =
    let read = link-read (only (keys_of LINK_TABLE) t)
    (text_at name_of key.A t) (text_at name_of key.B t)
    (number_at key.Rate RATE t) (number_at key.Delay DELAY t) l e in
    let rate = required-within RATE.least RATE.greatest l.rate (value_at key.Rate t) read.0 in
    let delay = required-within DELAY.least DELAY.greatest l.delay (value_at key.Delay t) read.1 in
    (rate, delay)

-- what the steps of reading a document gave
record DocumentRead (format : Format) (stop mtu : Result ℕ Refusal) (nodes : Result (List NodeTableValue) Refusal) (ifaces : Format → Result (List IfaceTableValue) Refusal) (links : Result (List LinkTableValue) Refusal) (sources : ℕ → Result (List SourceTableValue) Refusal) (d : DocumentValue) : Type 0 where
  stop_is : stop ≡ Ok d.stop
  mtu_is : mtu ≡ Ok d.mtu
  nodes_are : nodes ≡ Ok d.nodes
  ifaces_are : ifaces format ≡ Ok d.ifaces
  links_are : links ≡ Ok d.links
  sources_are : sources d.mtu ≡ Ok d.sources

document-read : (known : Result Unit Refusal) (format : Result Format Refusal) (stop mtu : Result ℕ Refusal) (nodes : Result (List NodeTableValue) Refusal) (ifaces : Format → Result (List IfaceTableValue) Refusal) (links : Result (List LinkTableValue) Refusal) (routes : Result (List RouteTableValue) Refusal) (sources : ℕ → Result (List SourceTableValue) Refusal) (d : DocumentValue) → (known >>= λ k. format >>= λ a. stop >>= λ b. mtu >>= λ c. nodes >>= λ g. ifaces a >>= λ h. links >>= λ i. routes >>= λ j. sources c >>= λ l. Ok (record { stop = b; mtu = c; nodes = g; ifaces = h; links = i; routes = j; sources = l })) ≡ Ok d → (a : Format) × DocumentRead a stop mtu nodes ifaces links sources d
document-read (Ok k) (Ok a) (Ok b) (Ok c) (Ok g) ifaces links routes sources d e =
    let hs = step (ifaces a) (λ h. links >>= λ i. routes >>= λ j. sources c >>= λ l. Ok (record { stop = b; mtu = c; nodes = g; ifaces = h; links = i; routes = j; sources = l })) d e in
    let is = step links (λ i. routes >>= λ j. sources c >>= λ l. Ok (record { stop = b; mtu = c; nodes = g; ifaces = hs.0; links = i; routes = j; sources = l })) d hs.2 in
    let js = step routes (λ j. sources c >>= λ l. Ok (record { stop = b; mtu = c; nodes = g; ifaces = hs.0; links = is.0; routes = j; sources = l })) d is.2 in
    let ls = step (sources c) (λ l. Ok (record { stop = b; mtu = c; nodes = g; ifaces = hs.0; links = is.0; routes = js.0; sources = l })) d js.2 in
    let whole : record { stop = b; mtu = c; nodes = g; ifaces = hs.0; links = is.0; routes = js.0; sources = ls.0 } ≡ d = cc (ls.2) in
    (a, record { stop_is = cc; mtu_is = cc; nodes_are = cc; ifaces_are = cc (hs.1); links_are = cc (is.1); sources_are = cc (ls.1) })
document-read (Ok k) (Ok a) (Ok b) (Ok c) (Err r) ifaces links routes sources d e = cc
document-read (Ok k) (Ok a) (Ok b) (Err r) nodes ifaces links routes sources d e = cc
document-read (Ok k) (Ok a) (Err r) mtu nodes ifaces links routes sources d e = cc
document-read (Ok k) (Err r) stop mtu nodes ifaces links routes sources d e = cc
document-read (Err r) format stop mtu nodes ifaces links routes sources d e = cc

pub document_in_range : (t : Members) (d : DocumentValue) → document_of t ≡ Ok d → IsInRange d
unfolding document_of with_tables
document_in_range t d e =
    let faces : Format → Result (List IfaceTableValue) Refusal = λ f. tables_at (iface_table_of f) array.Iface t in
    let sources : ℕ → Result (List SourceTableValue) Refusal = λ m. tables_at (source_table_of m) array.Source t in
    let found = document-read
    (only (keys_of TOP_TABLE) t)
    (required format_of (value_at key.Format t)) (number_at key.Stop STOP t)
    (number_at key.Mtu MTU t)
    (tables_at node_table_of array.Node t)
    faces
    (tables_at link_table_of array.Link t)
    (tables_at route_table_of array.Route t) sources d e in
    let read = found.1 in
    let stop = required-within STOP.least STOP.greatest d.stop (value_at key.Stop t) read.stop_is in
    let mtu = required-within MTU.least MTU.greatest d.mtu (value_at key.Mtu t) read.mtu_is in
    let room : 28 ≤ d.mtu = omega (arith, mtu.0) in
    let nodes = optional-holds (λ n. length n.ports ≤ MAX_PORTS_OF_NODE) is_table (array_limit array.Node) (in_table node_table_of)
    (in_table-holds (λ n. length n.ports ≤ MAX_PORTS_OF_NODE) node_table_of node_in_range) (value_at key.Node t) d.nodes read.nodes_are in
    let ifaces = optional-holds IsQueued is_table (array_limit array.Iface) (in_table (iface_table_of found.0))
    (in_table-holds IsQueued (iface_table_of found.0) (iface_in_range found.0)) (value_at key.Iface t) d.ifaces read.ifaces_are in
    let links = optional-holds IsLinkInRange is_table (array_limit array.Link) (in_table link_table_of)
    (in_table-holds IsLinkInRange link_table_of link_in_range) (value_at key.Link t) d.links read.links_are in
    let fit = optional-holds (λ s. FitsNamedTraffic d.mtu s.traffic) is_table (array_limit array.Source) (in_table (source_table_of d.mtu))
    (in_table-holds (λ s. FitsNamedTraffic d.mtu s.traffic) (source_table_of d.mtu) (source-fits d.mtu room)) (value_at key.Source t) d.sources read.sources_are in
    record {
      stop = stop;
      mtu = mtu;
      nodes = nodes.0;
      ifaces = All-weaker IsQueued (λ i. IsInBounds QUEUE i.queue) (λ i h. h.0) d.ifaces ifaces.0;
      queue_octets = All-weaker IsQueued (λ i. IfSome i.queue_octets (IsInBounds QUEUE_OCTETS)) (λ i h. h.1) d.ifaces ifaces.0;
      links = links.0;
      sources = fit.0;
    }
