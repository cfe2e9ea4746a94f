use Rattle.std.proofs.Common.{◌*◌, ◌+◌, length, replicate, sym, ◌∙◌, ap, subst}
use Rattle.std.specs.Arc.{arc_value}
use Rattle.nm_model.specs.Knowledge.{nothing_known}
use Rattle.nm_rounds.specs.World.{AreFirst}
use Rattle.nm_rounds.proofs.Replays.{first_more}
use Rattle.nm_rounds.proofs.world.push_replica.Goals as goal

pub returns : goal.returns
returns c first =
    let t = arc_value c.args.topology.now in
    subst (AreFirst t (2 * c.args.partition + c.args.replica + 1)) (sym c.in_ok-push.ensures.items)
    (first_more t c.args.partition c.args.replica c.args.books.now.items c.in-Ok.book c.requires.there first
    (c.in-Ok.ensures.fresh ∙ ap (λ z. record { topology = z; partition = c.args.partition; replica = c.args.replica; knows = replicate (length z.receivers) nothing_known; events = 0; handed = 0 }) c.in_ok-shared.ensures.cases))
