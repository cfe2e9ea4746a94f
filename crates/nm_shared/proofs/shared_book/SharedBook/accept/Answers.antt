use Rattle.nm_shared.specs.Known.{news}
use Rattle.nm_shared.proofs.News.{accept_adds, messages_rise}
use Rattle.nm_shared.proofs.shared_book.SharedBook.accept.Goals as goal

pub returns-clause-messages : goal.returns-clause-messages
returns-clause-messages g c exact =
    let h = c.act.ensures in
    messages_rise g.C.Counts.exact g.C.Counts.home _ _ h.0 h.1 (news c.act.result) h.3 exact (accept_adds c.args.message.now h.0 c.act.result h.1 h.3.channels h.2)
