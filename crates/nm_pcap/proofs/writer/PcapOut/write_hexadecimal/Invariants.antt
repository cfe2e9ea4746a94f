use Rattle.std.proofs.Common.{◌-◌, ◌≤◌, length, take}
use Rattle.hex.specs.Hex.{encode_lower}
use Rattle.nm_pcap.specs.Outcome.{AddedAll}
use Rattle.nm_pcap.proofs.writer.PcapOut.write_hexadecimal.Given as goal

abbrev pub invariant-loop-at : goal.invariant-loop-at
invariant-loop-at g l = record {
  within : l.at ≤ length l.octets;
  front : AddedAll g.W.Sink.seen l.initial.self l.self (encode_lower (take l.at l.octets));
}

abbrev pub decreases-loop-at : goal.decreases-loop-at
decreases-loop-at g l = length l.octets - l.at
