use Rattle.std.proofs.Common.{sym, ap, ◌∙◌, length, replicate}
use Rattle.nm_model.specs.Knowledge.{nothing_known}
use Rattle.nm_book.specs.Book.{is_replica}
use Rattle.std.specs.Arc.{arc_value}
use Rattle.nm_rounds.proofs.Standing.{is_absent, is_there}
use Rattle.nm_rounds.proofs.Mergings.{no_restart, restart_steps}
use Rattle.nm_rounds.proofs.acting.restart.Goals as goal

pub returns-in_default : goal.returns-in_default
returns-in_default c bag w stands =
    no_restart (arc_value c.args.topology.now) c.args.books.now.items bag w stands c.args.partition c.args.replica
    (ap (λ z. is_replica z c.args.partition c.args.replica) (sym c.deref.ensures) ∙ is_absent _ _ (sym c.place_of.ensures ∙ c.in_default.is))

pub returns-in-Ok : goal.returns-in-Ok
returns-in-Ok c bag w stands =
    let found = is_there _ _ _ (sym c.place_of.ensures ∙ c.in-Some.is) in
    restart_steps (arc_value c.args.topology.now) c.args.books.now.items bag w stands c.args.partition c.args.replica (ap (λ z. is_replica z c.args.partition c.args.replica) (sym c.deref.ensures) ∙ found.0) c.in-Some.place found.1 c.in-Ok.book
    (c.in-Ok.ensures.fresh ∙ ap (λ z. record { topology = z; partition = c.args.partition; replica = c.args.replica; knows = replicate (length z.receivers) nothing_known; events = 0; handed = 0 }) c.in_ok-shared.ensures.cases)
