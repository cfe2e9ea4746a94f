use Rattle.std.proofs.Common.{◌≡◌, take}
use Rattle.nm_traffic.proofs.raw.shared.Given as goal

abbrev pub invariant-loop-packet : goal.invariant-loop-packet
invariant-loop-packet l = l.copies.items ≡ take l.packet-index l.packets
