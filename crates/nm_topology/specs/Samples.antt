-- A table of each kind, written out, and what each says.
use Rattle.std.specs.Prelude.{◌≡◌, ℕ, pos, if◌then◌else◌, List, [], ◌∷◌, map, Some}
use Rattle.std.specs.Prelude.{Result, Err, codes}
use Rattle.std.specs.Str.{bytes_eq}
use Rattle.toml.specs.Data.{Data, string, integer, array, table, Items, no_items, item, Members}
use Rattle.toml.specs.Data.{no_members, member}
use Rattle.nm_topology.specs.declared.fault.Refusal.{Refusal}
use Rattle.nm_topology.specs.declared.fault.Refusal.TheVariants.{Missing}
use Rattle.nm_topology.specs.declared.node.NodeKind.TheVariants.{Host}
use Rattle.nm_topology.specs.declared.parse.sources.NamedTraffic.TheVariants.{Cbr, Echo, Raw}
use Rattle.nm_topology.specs.declared.traffic.Flow.{Flow}
use Rattle.nm_topology.specs.Parse.DocumentValue.{DocumentValue}
use Rattle.nm_topology.specs.Parse.SourceTableValue.{SourceTableValue}
use Rattle.nm_topology.specs.Parse.TableValues.{NodeTableValue, IfaceTableValue, LinkTableValue}
use Rattle.nm_topology.specs.Parse.TableValues.{RouteTableValue}

-- a key with a text, and one with a whole number, before other members
abbrev pub text : List ℕ → List ℕ → Members → Members
text key value ms = member key (string value) ms

abbrev pub number : List ℕ → ℕ → Members → Members
number key value ms = member key (integer (pos value)) ms

-- the members whose key is another one
abbrev pub without : List ℕ → Members → Members
without key no_members = no_members
without key (member k d ms) =
    if bytes_eq key k then without key ms else member k d (without key ms)

-- each of these keys is missed if it alone is left out
abbrev pub AreMissed : {X : Type 0} → (Members → Result X Refusal) → Members → List (List ℕ)
    → Type 0
AreMissed read t keys =
    map (λ key. read (without key t)) keys ≡ map (λ key. Err Missing) keys

abbrev pub top : Members
top = number (codes "format") 2 (number (codes "stop") 10 (number (codes "mtu") 600 no_members))

abbrev pub top_value : DocumentValue
top_value = record {
  stop = 10;
  mtu = 600;
  nodes = [];
  ifaces = [];
  links = [];
  routes = [];
  sources = [];
}

abbrev pub node : Members
node =
    text (codes "name") (codes "a")
    (text (codes "kind") (codes "host")
    (number (codes "partition") 3
    (member (codes "ports") (array (item (integer (pos 9)) no_items)) no_members)))

abbrev pub node_value : NodeTableValue
node_value = record { name = codes "a"; kind = Host; partition = 3; ports = 9 ∷ [] }

abbrev pub iface : Members
iface =
    text (codes "name") (codes "a0")
    (text (codes "node") (codes "a")
    (text (codes "address") (codes "10.0.0.1")
    (number (codes "queue") 4 (number (codes "queue_octets") 5_000 no_members))))

abbrev pub iface_value : IfaceTableValue
iface_value = record {
  name = codes "a0";
  node = codes "a";
  address = 167_772_161;
  queue = 4;
  queue_octets = Some 5_000;
}

abbrev pub link : Members
link =
    text (codes "a") (codes "a0")
    (text (codes "b") (codes "b0")
    (number (codes "rate") 8_000_000 (number (codes "delay") 1_000 no_members)))

abbrev pub link_value : LinkTableValue
link_value = record { a = codes "a0"; b = codes "b0"; rate = 8_000_000; delay = 1_000 }

abbrev pub route : Members
route =
    text (codes "node") (codes "a")
    (text (codes "to") (codes "10.0.0.0/24") (text (codes "via") (codes "a0") no_members))

abbrev pub route_value : RouteTableValue
route_value = record {
  node = codes "a";
  to = record { address = 167_772_160; length = 24 };
  via = codes "a0";
}

-- the packets of a source, with no table member before its kind
abbrev pub flow : Members
flow =
    number (codes "size") 72
    (number (codes "fill") 170
    (number (codes "start") 1
    (number (codes "interval") 2
    (number (codes "count") 3 (number (codes "ttl") 65 no_members)))))

abbrev pub flow_value : Flow
flow_value = record { size = 72; fill = 170; start = 1; interval = 2; count = 3; ttl = 65 }

-- a source of this kind at node `a`
abbrev pub source : List ℕ → Members → Members
source kind ms = text (codes "kind") kind (text (codes "node") (codes "a") ms)

abbrev pub cbr : Members
cbr =
    source (codes "cbr")
    (text (codes "to") (codes "10.0.0.1")
    (number (codes "sport") 1_000 (number (codes "dport") 9 flow)))

abbrev pub cbr_value : Flow → SourceTableValue
cbr_value f = record {
  node = codes "a";
  traffic = Cbr (record {
    to = 167_772_161;
    source_port = 1_000;
    destination_port = 9;
    flow = f;
  });
}

abbrev pub echo : Members
echo =
    source (codes "echo")
    (text (codes "to") (codes "10.0.0.1") (number (codes "ident") 7 flow))

abbrev pub echo_value : SourceTableValue
echo_value = record {
  node = codes "a";
  traffic = Echo (record { to = 167_772_161; identifier = 7; flow = flow_value });
}

abbrev pub packet : ℕ → List ℕ → Data
packet at octets = table (number (codes "at") at (text (codes "data") octets no_members))

-- a packet of two octets at 4 nanoseconds, and one of one octet at this time
abbrev pub packets : ℕ → Items
packets time = item (packet 4 (codes "aBcd")) (item (packet time (codes "0f")) no_items)

abbrev pub raw : ℕ → Members
raw time =
    source (codes "raw")
    (text (codes "via") (codes "a0") (member (codes "packet") (array (packets time)) no_members))

abbrev pub raw_value : SourceTableValue
raw_value = record {
  node = codes "a";
  traffic = Raw (record {
    via = codes "a0";
    packets = record { at = 4; packet = 171 ∷ 205 ∷ [] }
        ∷ record { at = 5; packet = 15 ∷ [] } ∷ [];
  });
}
