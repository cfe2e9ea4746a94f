-- The packets of a flow: when they come, and which octets they are.
use Rattle.std.specs.Prelude.{ℕ, ◌+◌, ◌*◌, ◌%◌, ◌==◌, if◌then◌else◌, List, [], ◌∷◌, ◌++◌, replicate}
use Rattle.nm_topology.specs.declared.traffic.Flow.{Flow}
use Rattle.nm_topology.specs.declared.traffic.Echo.{Echo}
use Rattle.nm_packet.specs.Octets.{word}
use Rattle.nm_packet.specs.declared.icmp.MessageKind.{MessageKind}
use Rattle.nm_packet.specs.declared.icmp.TheConstants.{ECHO_REQUEST, ECHO_CODE}
use Rattle.nm_packet.specs.Icmp.{icmp_header, message_octets}
use Rattle.nm_traffic.specs.declared.cbr.TheConstants.{NO_DATA}

-- when packet n comes, in nanoseconds
abbrev pub flow_time : Flow → ℕ → ℕ
flow_time f n = f.start + n * f.interval

-- the data of a packet
abbrev pub flow_data : Flow → List ℕ
flow_data f = replicate f.size f.fill

-- what a UDP source gives: its data, or the octet in their place
abbrev pub cbr_octets : Flow → List ℕ
cbr_octets f = if f.size == 0 then NO_DATA ∷ [] else flow_data f

-- echo request n (RFC 792): type 8, code 0, the identifier, and n modulo 65,536 as the sequence
-- number
unfoldable pub echo_message : Echo → ℕ → List ℕ
echo_message e n =
    let kind : MessageKind = record { message_type = ECHO_REQUEST; code = ECHO_CODE } in
    message_octets (icmp_header kind (word e.identifier ++ word (n % 65536))) (flow_data e.flow)
