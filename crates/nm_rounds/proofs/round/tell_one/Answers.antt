use Rattle.std.proofs.Common.{Err, subst}
use Rattle.nm_book.specs.Book.{message_channel}
use Rattle.nm_book.specs.Accepting.{Takes, message_taken}
use Rattle.nm_rounds.proofs.RoundTells.{refused, where_ok}
use Rattle.nm_rounds.proofs.round.tell_one.Goals as goal

pub returns-in-Err-Known : goal.returns-in-Err-Known
returns-in-Err-Known c =
    let b = c.args.book.now in
    let m = c.args.message.now in
    where_ok c.unless_memory.result _ _
    (λ other comes. refused b c.accept.new.self m comes c.in-Err-Known.fault other
    (subst (λ z. Takes b c.accept.new.self (message_channel m) (message_taken b.knows m) (Err z)) c.in-Err-Known.field-0-is c.in-Err-Known.ensures))
    c.unless_memory.ensures
