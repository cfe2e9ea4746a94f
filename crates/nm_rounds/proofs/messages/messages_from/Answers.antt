use Rattle.std.proofs.Common.{arith, sym, subst}
use Rattle.nm_rounds.proofs.Sends.{AreGathered, gathered_all, gathered_more, gathered_none}
use Rattle.nm_rounds.proofs.messages.messages_from.Goals as goal

pub loop-number-init : goal.loop-number-init
loop-number-init c = subst (AreGathered c.args.book.now c.args.channel c.args.first c.args.first) (sym c.new-messages.ensures.items) (gathered_none c.args.book.now c.args.channel c.args.first)

pub loop-number-preserved : goal.loop-number-preserved
loop-number-preserved c =
    subst (λ n. AreGathered c.args.book.now c.args.channel c.args.first n c.push_message.new.messages.items) (omega arith)
    (gathered_more c.args.book.now c.args.channel c.args.first c.loop-number.number _ _ c.loop-number.invariant c.in_ok-push_message.ensures)

pub returns : goal.returns
returns c =
    gathered_all c.args.book.now c.args.channel c.args.first c.loop-number.number c.loop-number.messages.items c.loop-number.invariant
    (let e = c.requires.sent in let f = c.loop-number-test.false in omega (arith, e, f))
