use Rattle.std.proofs.Common.{◌≡◌, ◌+◌, ◌≤◌, length}
use Rattle.nm_packet.specs.Checksum.{folded, word_sum}
use Rattle.nm_packet.proofs.checksum.sum_last_words.Given as goal

abbrev pub invariant-loop-rest : goal.invariant-loop-rest
invariant-loop-rest l = record {
  word : l.sum ≤ 65535;
  same : folded (l.sum + word_sum l.rest) ≡ folded (l.start + word_sum l.octets);
}

abbrev pub decreases-loop-rest : goal.decreases-loop-rest
decreases-loop-rest l = length l.rest
