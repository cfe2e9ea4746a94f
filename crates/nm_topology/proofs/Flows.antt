-- The tables of `source` are read to traffic in range.
use Rattle.std.proofs.Common.{◌≡◌, All, ℕ, suc, ◌+◌, ◌-◌, ◌≤◌, List, [], ◌∷◌, length, Result, Ok}
use Rattle.std.proofs.Common.{Err, refl, ap, subst, arith}
use Rattle.std.specs.Prelude.{nat_le}
use Rattle.std.proofs.lemmas.Bool.Decides.{nat_tests}
use Rattle.std.proofs.lemmas.List.Elements.{All-nil, All-cons}
use Rattle.hex.specs.Hex.{decode_of}
use Rattle.hex.specs.declared.error.FromHexError.{FromHexError}
use Rattle.toml.specs.Data.{Data, string, array, Items, no_items, item, Members}
use Rattle.nm_base.specs.declared.limits.TheConstants.{MAX_RAW_PACKETS, MAX_TIME}
use Rattle.nm_topology.specs.declared.fault.Refusal.{Refusal}
use Rattle.nm_topology.specs.declared.fault.Refusal.TheVariants.{Kind, TooMany}
use Rattle.nm_topology.specs.declared.keys.fields.TheConstants.{COUNT, FILL}
use Rattle.nm_topology.specs.declared.keys.fields.TheConstants.{IDENTIFIER, INTERVAL, PORT}
use Rattle.nm_topology.specs.declared.keys.fields.TheConstants.{START, TTL}
use Rattle.nm_topology.specs.declared.keys.key.TableKey.TheVariants as key
use Rattle.nm_topology.specs.declared.traffic.Flow.{Flow}
use Rattle.nm_topology.specs.declared.traffic.RawPacket.{RawPacket}
use Rattle.nm_topology.specs.declared.parse.sources.NamedTraffic.{NamedTraffic}
use Rattle.nm_topology.specs.declared.parse.sources.NamedTraffic.TheVariants.{Cbr as NamedCbr}
use Rattle.nm_topology.specs.declared.parse.sources.NamedTraffic.TheVariants.{Echo as NamedEcho}
use Rattle.nm_topology.specs.declared.parse.sources.NamedTraffic.TheVariants.{Raw as NamedRaw}
use Rattle.nm_topology.specs.declared.parse.sources.SourceKind.{SourceKind}
use Rattle.nm_topology.specs.declared.parse.sources.SourceKind.TheVariants.{Cbr as CbrKind}
use Rattle.nm_topology.specs.declared.parse.sources.SourceKind.TheVariants.{Echo as EchoKind}
use Rattle.nm_topology.specs.declared.parse.sources.SourceKind.TheVariants.{Raw as RawKind}
use Rattle.nm_topology.specs.Fault.{◌>>=◌}
use Rattle.nm_topology.specs.Keys.{keys_of, packet_table, size_under, time_from}
use Rattle.nm_topology.specs.Parse.Fields.{number_at, number_or, only, required, text_at, value_at}
use Rattle.nm_topology.specs.Parse.Arrays.{is_table, all_fit, count, in_table}
use Rattle.nm_topology.specs.Parse.Forms.{name_of, usable_address_of}
use Rattle.nm_topology.specs.Parse.SourceTableValue.{SourceTableValue}
use Rattle.nm_topology.specs.Parse.Sources.{decoded, octets_of, packet_of, packets_from, packets_of}
use Rattle.nm_topology.specs.Parse.Sources.{flow_of, cbr_of, echo_of, raw_of}
use Rattle.nm_topology.specs.Parse.Sources.{fields_of_kind, source_kind_of, source_by, source_table_of, named_traffic_of}
use Rattle.nm_topology.specs.Limits.{FitsFlow, AreRising, FitsPackets}
use Rattle.nm_topology.specs.Parse.Ranges.{FitsNamedTraffic}
use Rattle.nm_topology.proofs.Steps.{step, required-within, optional-within, required-holds}
use Rattle.nm_topology.proofs.Steps.{both_passed, in_table-holds}

decoded-within : (mtu : ℕ) (r : Result (List ℕ) FromHexError) (octets : List ℕ) → decoded mtu r ≡ Ok octets → (1 ≤ length octets) × (length octets ≤ mtu)
decoded-within mtu (Ok os) octets e = grind (arith, nat_tests, e)
decoded-within mtu (Err f) octets e = cc

octets-within : (mtu : ℕ) (d : Data) (octets : List ℕ) → octets_of mtu d ≡ Ok octets → (1 ≤ length octets) × (length octets ≤ mtu)
octets-within mtu (string s) octets e = decoded-within mtu (decode_of s) octets e
octets-within mtu _ octets e = cc

-- a raw packet
abbrev FitsPacket : ℕ → ℕ → RawPacket → Type 0
FitsPacket mtu least p = (least ≤ p.at) × (p.at ≤ MAX_TIME) × (1 ≤ length p.packet) × (length p.packet ≤ mtu)

packet-read : (known : Result Unit Refusal) (at : Result ℕ Refusal) (octets : Result (List ℕ) Refusal) (p : RawPacket) → (known >>= λ k. at >>= λ a. octets >>= λ o. Ok (record { at = a; packet = o })) ≡ Ok p → (at ≡ Ok p.at) × (octets ≡ Ok p.packet)
packet-read (Ok k) (Ok a) (Ok o) p e = (cc, cc)
packet-read (Ok k) (Ok a) (Err r) p e = cc
packet-read (Ok k) (Err r) octets p e = cc
packet-read (Err r) at octets p e = cc

packet-fits : (mtu least : ℕ) (t : Members) (p : RawPacket) → packet_of mtu least t ≡ Ok p → FitsPacket mtu least p
unfolding packet_of
packet-fits mtu least t p e =
    let read = packet-read (only (keys_of (packet_table least)) t)
    (number_at key.At (time_from least) t) (required (octets_of mtu) (value_at key.Data t)) p e in
    let at = required-within (time_from least).least (time_from least).greatest p.at (value_at key.At t) read.0 in
    let octets = required-holds (λ os. (1 ≤ length os) × (length os ≤ mtu)) (octets_of mtu) (value_at key.Data t) p.packet
    (λ d h. octets-within mtu d p.packet h) read.1 in
    (at.0, at.1, octets.0, octets.1)

packets-rise : (mtu least : ℕ) (ds : Items) (ps : List RawPacket) → packets_from mtu least ds ≡ Ok ps → AreRising mtu least ps × All (λ p. 1 ≤ length p.packet) ps × (length ps ≡ count ds)
packets-rise mtu least no_items ps e =
    let none : [] ≡ ps = cc in
    subst (λ qs. AreRising mtu least qs × All (λ p. 1 ≤ length p.packet) qs × (length qs ≡ 0)) none (tt, All-nil (λ p. 1 ≤ length p.packet), refl)
packets-rise mtu least (item d ds) ps e =
    let a = step (in_table (packet_of mtu least) d) (λ p. packets_from mtu (p.at + 1) ds >>= λ qs. Ok (p ∷ qs)) ps e in
    let b = step (packets_from mtu (a.0.at + 1) ds) (λ qs. Ok (a.0 ∷ qs)) ps a.2 in
    let fits = in_table-holds (FitsPacket mtu least) (packet_of mtu least) (packet-fits mtu least) d a.0 a.1 in
    let rest = packets-rise mtu (a.0.at + 1) ds b.0 b.1 in
    let whole : a.0 ∷ b.0 ≡ ps = cc (b.2) in
    subst (λ qs. AreRising mtu least qs × All (λ p. 1 ≤ length p.packet) qs × (length qs ≡ suc (count ds))) whole
    ((fits.0, fits.1, fits.3, rest.0), All-cons (λ p. 1 ≤ length p.packet) a.0 b.0 fits.2 rest.1, ap suc rest.2)

pub packets-fit : (mtu : ℕ) (d : Data) (ps : List RawPacket) → packets_of mtu d ≡ Ok ps → FitsPackets mtu ps × All (λ p. 1 ≤ length p.packet) ps
packets-fit mtu (array ds) ps e =
    let passed = both_passed (all_fit is_table ds) (nat_le (count ds) MAX_RAW_PACKETS) (packets_from mtu 0 ds) TooMany Kind ps e in
    let rise = packets-rise mtu 0 ds ps passed.1 in
    let few : count ds ≤ MAX_RAW_PACKETS = grind (arith, nat_tests, passed.0) in
    ((rise.0, omega (arith, rise.2, few)), rise.1)
packets-fit mtu _ ps e = cc

flow-read : (size fill start interval count ttl : Result ℕ Refusal) (f : Flow) → (size >>= λ a. fill >>= λ b. start >>= λ c. interval >>= λ d. count >>= λ g. ttl >>= λ h. Ok (record { size = a; fill = b; start = c; interval = d; count = g; ttl = h })) ≡ Ok f → (size ≡ Ok f.size) × (start ≡ Ok f.start) × (interval ≡ Ok f.interval) × (count ≡ Ok f.count) × (ttl ≡ Ok f.ttl)
flow-read (Ok a) (Ok b) (Ok c) (Ok d) (Ok g) (Ok h) f e = (cc, cc, cc, cc, cc)
flow-read (Ok a) (Ok b) (Ok c) (Ok d) (Ok g) (Err r) f e = cc
flow-read (Ok a) (Ok b) (Ok c) (Ok d) (Err r) ttl f e = cc
flow-read (Ok a) (Ok b) (Ok c) (Err r) count ttl f e = cc
flow-read (Ok a) (Ok b) (Err r) interval count ttl f e = cc
flow-read (Ok a) (Err r) start interval count ttl f e = cc
flow-read (Err r) fill start interval count ttl f e = cc

flow-fits : (mtu : ℕ) (t : Members) (f : Flow) → 28 ≤ mtu → flow_of mtu t ≡ Ok f → FitsFlow mtu f
unfolding flow_of
flow-fits mtu t f room e =
    let read = flow-read (number_at key.Size (size_under mtu) t) (number_or 0 key.Fill FILL t)
    (number_at key.Start START t) (number_at key.Interval INTERVAL t)
    (number_at key.Count COUNT t) (number_or 64 key.Ttl TTL t) f e in
    let size = required-within (size_under mtu).least (size_under mtu).greatest f.size (value_at key.Size t) read.0 in
    let start = required-within START.least START.greatest f.start (value_at key.Start t) read.1 in
    let interval = required-within INTERVAL.least INTERVAL.greatest f.interval (value_at key.Interval t) read.2 in
    let count = required-within COUNT.least COUNT.greatest f.count (value_at key.Count t) read.3 in
    let ttl = optional-within 64 TTL.least TTL.greatest f.ttl (value_at key.Ttl t) (omega arith) (omega arith) read.4 in
    (omega (arith, size.1, room), start.1, interval.0, interval.1, count.1, ttl.0)

cbr-read : (mtu : ℕ) (to source destination : Result ℕ Refusal) (flow : Result Flow Refusal) (n : NamedTraffic) → ((f : Flow) → flow ≡ Ok f → FitsFlow mtu f) → (to >>= λ a. source >>= λ b. destination >>= λ c. flow >>= λ f. Ok (NamedCbr (record { to = a; source_port = b; destination_port = c; flow = f }))) ≡ Ok n → FitsNamedTraffic mtu n
unfolding FitsNamedTraffic
cbr-read mtu (Ok a) (Ok b) (Ok c) (Ok f) n h e =
    let traffic : NamedCbr (record { to = a; source_port = b; destination_port = c; flow = f }) ≡ n = cc in
    subst (FitsNamedTraffic mtu) traffic (h f refl)
cbr-read mtu (Ok a) (Ok b) (Ok c) (Err r) n h e = cc
cbr-read mtu (Ok a) (Ok b) (Err r) flow n h e = cc
cbr-read mtu (Ok a) (Err r) destination flow n h e = cc
cbr-read mtu (Err r) source destination flow n h e = cc

echo-read : (mtu : ℕ) (to identifier : Result ℕ Refusal) (flow : Result Flow Refusal) (n : NamedTraffic) → ((f : Flow) → flow ≡ Ok f → FitsFlow mtu f) → (to >>= λ a. identifier >>= λ b. flow >>= λ f. Ok (NamedEcho (record { to = a; identifier = b; flow = f }))) ≡ Ok n → FitsNamedTraffic mtu n
unfolding FitsNamedTraffic
echo-read mtu (Ok a) (Ok b) (Ok f) n h e =
    let traffic : NamedEcho (record { to = a; identifier = b; flow = f }) ≡ n = cc in
    subst (FitsNamedTraffic mtu) traffic (h f refl)
echo-read mtu (Ok a) (Ok b) (Err r) n h e = cc
echo-read mtu (Ok a) (Err r) flow n h e = cc
echo-read mtu (Err r) identifier flow n h e = cc

raw-read : (mtu : ℕ) (via : Result (List ℕ) Refusal) (packets : Result (List RawPacket) Refusal) (n : NamedTraffic) → ((ps : List RawPacket) → packets ≡ Ok ps → FitsPackets mtu ps × All (λ p. 1 ≤ length p.packet) ps) → (via >>= λ v. packets >>= λ ps. Ok (NamedRaw (record { via = v; packets = ps }))) ≡ Ok n → FitsNamedTraffic mtu n
unfolding FitsNamedTraffic
raw-read mtu (Ok v) (Ok ps) n h e =
    let traffic : NamedRaw (record { via = v; packets = ps }) ≡ n = cc in
    subst (FitsNamedTraffic mtu) traffic (h ps refl)
raw-read mtu (Ok v) (Err r) n h e = cc
raw-read mtu (Err r) packets n h e = cc

traffic-fits : (kind : SourceKind) (mtu : ℕ) (t : Members) (n : NamedTraffic) → 28 ≤ mtu → named_traffic_of kind mtu t ≡ Ok n → FitsNamedTraffic mtu n
unfolding cbr_of echo_of raw_of
traffic-fits CbrKind mtu t n room e =
    cbr-read mtu (text_at usable_address_of key.To t)
    (number_at key.SourcePort PORT t) (number_at key.DestinationPort PORT t)
    (flow_of mtu t) n (λ f h. flow-fits mtu t f room h) e
traffic-fits EchoKind mtu t n room e =
    echo-read mtu (text_at usable_address_of key.To t)
    (number_at key.Identifier IDENTIFIER t) (flow_of mtu t) n (λ f h. flow-fits mtu t f room h) e
traffic-fits RawKind mtu t n room e =
    raw-read mtu (text_at name_of key.Via t)
    (required (packets_of mtu) (value_at key.Packet t)) n
    (λ ps h. required-holds (λ qs. FitsPackets mtu qs × All (λ p. 1 ≤ length p.packet) qs) (packets_of mtu) (value_at key.Packet t) ps
    (λ d g. packets-fit mtu d ps g) h) e

table-read : (known : Result Unit Refusal) (node : Result (List ℕ) Refusal) (traffic : Result NamedTraffic Refusal) (s : SourceTableValue) → (known >>= λ k. node >>= λ n. traffic >>= λ x. Ok (record { node = n; traffic = x })) ≡ Ok s → traffic ≡ Ok s.traffic
table-read (Ok k) (Ok n) (Ok x) s e = cc
table-read (Ok k) (Ok n) (Err r) s e = cc
table-read (Ok k) (Err r) traffic s e = cc
table-read (Err r) node traffic s e = cc

pub source-fits : (mtu : ℕ) → 28 ≤ mtu → (t : Members) (s : SourceTableValue) → source_table_of mtu t ≡ Ok s → FitsNamedTraffic mtu s.traffic
unfolding source_table_of
source-fits mtu room t s e =
    let kind = step (text_at source_kind_of key.Kind t) (λ k. source_by k mtu t) s e in
    traffic-fits kind.0 mtu t s.traffic room
    (table-read (only (keys_of (fields_of_kind kind.0)) t) (text_at name_of key.Node t) (named_traffic_of kind.0 mtu t) s kind.2)
