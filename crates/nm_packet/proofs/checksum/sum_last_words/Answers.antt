use Rattle.std.proofs.Common.{◌≡◌, ◌-◌, ◌∙◌, drop, take, length, arith}
use Rattle.std.proofs.lemmas.List.{take_all, length-drop}
use Rattle.nm_packet.specs.Octets.{word_at}
use Rattle.nm_packet.proofs.Checksums.{folded-next}
use Rattle.nm_packet.proofs.checksum.sum_last_words.Goals as goal

pub loop-rest-preserved : goal.loop-rest-preserved
loop-rest-preserved c =
    let xs = c.loop-rest.rest.now in
    let word : c.from_be_bytes.result ≡ word_at xs 0 = omega (arith, c.from_be_bytes.ensures) in
    let all : take (length xs - 2) (drop 2 xs) ≡ drop 2 xs = take_all (length xs - 2) (drop 2 xs) (omega (arith, length-drop 2 xs)) in
    record {
      word = omega arith;
      same = rw all (folded-next c.loop-rest.sum c.add_words-sum.result c.from_be_bytes.result xs c.in-len2-up.len_at_least word c.add_words-sum.ensures ∙ c.loop-rest.invariant.same);
    }
