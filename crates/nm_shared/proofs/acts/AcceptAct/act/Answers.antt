use Rattle.nm_shared.proofs.News.{accept_adds}
use Rattle.nm_shared.proofs.acts.AcceptAct.act.Goals as goal

pub returns-clause-news : goal.returns-clause-news
returns-clause-news c all = accept_adds c.args.self.message.now c.args.book.now c.accept.result c.accept.new.self all c.accept.ensures
