use Rattle.std.proofs.Common.{◌≡◌, slice_index_or, sym, subst}
use Rattle.nm_model.specs.Knowledge.{nothing_known}
use Rattle.nm_model.specs.Promise.{Tight}
use Rattle.nm_book.specs.Book.{null_on}
use Rattle.nm_rounds.specs.World.{AreMessages}
use Rattle.nm_rounds.specs.Rounds.{AreNews}
use Rattle.nm_rounds.proofs.Standing.{is_there}
use Rattle.nm_rounds.proofs.RoundNews.{news_all}
use Rattle.nm_rounds.proofs.round.news.Goals as goal

pub returns : goal.returns
returns c =
    let a = slice_index_or c.args.receiver.now.knows c.args.channel nothing_known in
    let null : c.in-Some.null ≡ null_on Tight c.args.sender.now c.args.channel = (is_there _ _ _ (sym c.in-Some.ensures)).1 in
    let are = subst (λ n. AreMessages c.args.sender.now c.args.channel n c.in_ok-messages.messages.items) c.next_number-first.ensures c.in_ok-messages.ensures in
    subst (AreNews a c.args.sender.now c.args.channel) (sym c.in_ok-push.ensures.items)
    (news_all a c.args.sender.now c.args.channel c.in_ok-messages.messages.items c.in-Some.null are null)
