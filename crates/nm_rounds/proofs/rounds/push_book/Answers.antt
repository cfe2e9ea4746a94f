use Rattle.std.proofs.Common.{◌+◌, length, replicate, sym, ◌∙◌, ap, subst}
use Rattle.std.specs.Arc.{arc_value}
use Rattle.nm_model.specs.Knowledge.{nothing_known}
use Rattle.nm_model.specs.World.{fresh}
use Rattle.nm_rounds.specs.Rounds.{AreBooks}
use Rattle.nm_rounds.proofs.RoundBooks.{one_more}
use Rattle.nm_rounds.proofs.rounds.push_book.Goals as goal

pub returns : goal.returns
returns c are =
    let t = arc_value c.args.topology.now in
    subst (AreBooks t (c.args.partition + 1) (λ p. fresh)) (sym c.in_ok-push.ensures.items)
    (one_more t c.args.partition c.args.books.now.items c.in-Ok.book are
    (c.in-Ok.ensures.fresh ∙ ap (λ z. record { topology = z; partition = c.args.partition; replica = 0; knows = replicate (length z.receivers) nothing_known; events = 0; handed = 0 }) c.in_ok-shared.ensures.cases))
