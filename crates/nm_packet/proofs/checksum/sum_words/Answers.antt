use Rattle.std.proofs.Common.{rules, ◌≡◌, ◌+◌, ◌*◌, ◌-◌, ◌∙◌, drop, take, length, arith}
use Rattle.std.proofs.lemmas.List.{take_all, length-drop}
use Rattle.nm_packet.specs.Octets.{long_word_at}
use Rattle.nm_packet.proofs.Checksums.{folded-next_four}
use Rattle.nm_packet.proofs.checksum.sum_words.Goals as goal

pub loop-rest-preserved : goal.loop-rest-preserved
loop-rest-preserved c =
    let xs = c.loop-rest.rest.now in
    let four : c.from_be_bytes.result ≡ long_word_at xs 0 * 4294967296 + long_word_at xs 4 = omega (arith, c.from_be_bytes.ensures) in
    let all : take (length xs - 8) (drop 8 xs) ≡ drop 8 xs = take_all (length xs - 8) (drop 8 xs) (omega (arith, length-drop 8 xs)) in
    rw all (folded-next_four c.loop-rest.sum _ c.add_four_words-sum.result xs c.in-len8-up.len_at_least four (search rules) ∙ c.loop-rest.invariant)
