use Rattle.std.proofs.Common.{rules, ◌≡◌, ◌+◌, ◌∙◌, refl, ap, [], ◌-◌, length, take, drop, arith}
use Rattle.std.proofs.Math.ListN.{drop_of_length-le}
use Rattle.std.proofs.lemmas.List.{take_all, length-drop}
use Rattle.nm_packet.specs.Checksum.{folded, word_sum}
use Rattle.nm_packet.proofs.Checksums.{folded-add, folded-header}
use Rattle.nm_packet.proofs.checksum.sum_header.Goals as goal

pub returns-in-empty : goal.returns-in-empty
returns-in-empty c =
    let xs = c.args.header.now in
    let none : drop 20 xs ≡ [] = drop_of_length-le xs {i = 20} (omega arith) in
    let zero : 0 ≡ word_sum (drop 20 xs) = rw none refl in
    c.fold.ensures ∙ ap folded (omega arith) ∙ folded-header xs 0 (omega arith) zero

pub returns-in_default : goal.returns-in_default
returns-in_default c =
    let xs = c.args.header.now in
    let later = word_sum (drop 20 xs) in
    let front = c.from.result + c.from-2.result + c.from-3.result + c.from-4.result + c.from-5.result in
    let all : take (length xs - 20) (drop 20 xs) ≡ drop 20 xs = take_all (length xs - 20) (drop 20 xs) (omega (arith, length-drop 20 xs)) in
    let made : c.sum_words.result ≡ folded (folded front + later) = rw (← all) (search rules) in
    made ∙ folded-add front later ∙ ap folded (omega arith) ∙ folded-header xs later (omega arith) refl
