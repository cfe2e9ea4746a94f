use Rattle.std.proofs.Common.{Ok, sym, ◌∙◌, refl, subst}
use Rattle.nm_rounds.specs.World.{Steps}
use Rattle.nm_rounds.specs.declared.step.StepAnswer.TheVariants.{Frames}
use Rattle.nm_rounds.specs.declared.step.WorldStep.TheVariants.{Data}
use Rattle.nm_rounds.proofs.Sends.{data_missing, data_sent, nothing_to_send}
use Rattle.nm_rounds.proofs.acting.send.Goals as goal

pub returns-in_default : goal.returns-in_default
returns-in_default c w stands = nothing_to_send c.args.topology.now c.args.books.now c.args.bag.now.items w stands c.args.outlet.partition c.args.outlet.replica c.args.outlet.channel (sym c.in_default.ensures.value) c.args.number

pub returns-in_default-2 : goal.returns-in_default-2
returns-in_default-2 c w stands =
    data_missing c.args.topology.now c.args.books.now c.args.bag.now.items w stands c.args.outlet.partition c.args.outlet.replica c.args.outlet.channel c.in-Some.place (sym c.in-Some.ensures.value) (c.in-Some.ensures.there refl)
    c.index-books-place.result c.index-books-place.is c.args.number (sym c.in_default-2.is ∙ c.in_ok-message.ensures)

pub returns : goal.returns
returns c w stands =
    subst (λ z. Steps c.args.topology.now w (Data c.args.outlet.partition c.args.outlet.replica c.args.outlet.channel c.args.number) (Ok (Frames 1)) c.args.books.now z) (sym c.in_ok-put.ensures.ok)
    (data_sent c.args.topology.now c.args.books.now c.args.bag.now.items w stands c.args.outlet.partition c.args.outlet.replica c.args.outlet.channel c.in-Some.place (sym c.in-Some.ensures.value) (c.in-Some.ensures.there refl)
    c.index-books-place.result c.index-books-place.is c.args.number c.in-Some-2.message (sym c.in-Some-2.is ∙ c.in_ok-message.ensures))
