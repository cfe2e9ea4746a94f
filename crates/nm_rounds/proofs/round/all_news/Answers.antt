use Rattle.std.proofs.Common.{◌≡◌, ◌+◌, length, map, sym, subst, rules}
use Rattle.nm_rounds.specs.Rounds.{AreAllNews, AreNewsOf}
use Rattle.nm_rounds.proofs.RoundBooks.{more_news}
use Rattle.nm_rounds.proofs.round.all_news.Goals as goal

pub loop-number-preserved : goal.loop-number-preserved
loop-number-preserved c x are =
    let t = c.args.topology.now in
    let k = c.loop-number.number in
    let m = c.in_ok-messages.messages in
    subst (λ z. AreAllNews t x (k + 1) (map (λ messages. messages.items) z)) (sym c.in_ok-push.ensures.items)
    (more_news t x (λ messages. messages.items) k c.loop-number.news.items m (c.loop-number.invariant x are)
    (subst (λ z. AreNewsOf t x z m.items) c.channel_number.ensures (c.in_ok-messages.ensures x are)))

pub returns : goal.returns
returns c x are =
    let t = c.args.topology.now in
    let same : c.loop-number.number ≡ length t.receivers = search rules in
    subst (λ n. AreAllNews t x n (map (λ messages. messages.items) c.loop-number.news.items)) same (c.loop-number.invariant x are)
