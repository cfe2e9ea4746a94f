use Rattle.std.proofs.Common.{◌≡◌, ◌<◌, ◌+◌, suc, arith, length, refl, subst, rules}
use Rattle.std.proofs.lemmas.Option.{slice_get_read}
use Rattle.nm_rounds.proofs.RoundTells.{told_next, with_told}
use Rattle.nm_rounds.proofs.round.tell_all.Goals as goal

pub loop-message-preserved : goal.loop-message-preserved
loop-message-preserved c = λ d comes within of_d.
    let ms = c.args.messages.now in
    let i = c.loop-message.message-index in
    let there : i < length ms = search rules in
    let next : suc i ≡ i + 1 = omega arith in
    subst (λ n. c.tell_one.new.book ≡ with_told c.args.book.now ms d n) next
    (told_next c.args.book.now ms d c.loop-message.book c.tell_one.new.book i c.message-item.result (c.loop-message.invariant d comes within of_d) comes within of_d
    (slice_get_read ms (length ms) i c.message-item.result refl there c.message-item.is) c.in_ok-tell_one.ensures)
