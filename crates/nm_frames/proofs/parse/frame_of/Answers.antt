use Rattle.std.proofs.Common.{◌∙◌, length, get_or, drop, sym, arith}
use Rattle.std.proofs.lemmas.List.{get_or-drop}
use Rattle.nm_frames.proofs.Parsing.{Octets, have_body, null_body, data_body, hello_body, fitting_1, fitting_2, fitting_3, fitting_4}
use Rattle.nm_frames.proofs.parse.frame_of.Goals as goal

pub returns-in-2-clause-value : goal.returns-in-2-clause-value
returns-in-2-clause-value c =
    let xs = c.args.body.now in
    let small : Octets xs = λ i. omega (arith, c.type_inv.body i) in
    let n = fitting_2 (get_or xs 0 0) (length xs) (drop 1 xs) c.in-2.is c.requires.fitting in
    have_body xs small c.new.result c.u64_at.result n c.in-2.is (c.new.ensures ∙ c.u32_at.ensures) c.u64_at.ensures

pub returns-in-4-clause-value : goal.returns-in-4-clause-value
returns-in-4-clause-value c =
    let xs = c.args.body.now in
    let small : Octets xs = λ i. omega (arith, c.type_inv.body i) in
    let n = fitting_4 (get_or xs 0 0) (length xs) (drop 1 xs) c.in-4.is c.requires.fitting in
    null_body xs small c.new-in-4.result c.u64_at-in-4.result c.from_nanoseconds.result n c.in-4.is (c.new-in-4.ensures ∙ c.u32_at-in-4.ensures) c.u64_at-in-4.ensures (c.from_nanoseconds.ensures ∙ c.u64_at-in-4-2.ensures)

pub returns-in_ok-data_of-in-3-clause-value : goal.returns-in_ok-data_of-in-3-clause-value
returns-in_ok-data_of-in-3-clause-value c =
    let xs = c.args.body.now in
    let small : Octets xs = λ i. omega (arith, c.type_inv.body i) in
    let d = c.in_ok-data_of-in-3.field-0 in
    let e = c.in_ok-data_of-in-3.ensures in
    let n = fitting_3 (get_or xs 0 0) (length xs) (drop 1 xs) c.in-3.is c.requires.fitting in
    data_body xs small d.channel d.number d.time d.packet (omega (arith, n)) c.in-3.is e.channel e.number e.time e.packet

pub returns-in-1-clause-value : goal.returns-in-1-clause-value
returns-in-1-clause-value c =
    let xs = c.args.body.now in
    let small : Octets xs = λ i. omega (arith, c.type_inv.body i) in
    let h = c.hello_of.result in
    let e = c.hello_of.ensures in
    let n = fitting_1 (get_or xs 0 0) (length xs) (drop 1 xs) c.in-1.is c.requires.fitting in
    hello_body xs small h.version h.partition h.replica h.digest (omega (arith, n.0)) c.in-1.is (sym (get_or-drop 1 xs 0 0) ∙ n.1) (sym (get_or-drop 1 xs 1 0) ∙ n.2) (sym (get_or-drop 1 xs 2 0) ∙ n.3) (sym (get_or-drop 1 xs 3 0) ∙ n.4) e.version e.partition e.replica e.digest
