use Rattle.std.proofs.Common.{Ok, sym, refl, subst}
use Rattle.nm_rounds.specs.Acting.{null_step}
use Rattle.nm_rounds.specs.World.{Steps}
use Rattle.nm_rounds.specs.declared.step.StepAnswer.TheVariants.{Frames}
use Rattle.nm_rounds.proofs.Sends.{no_answer, no_null, null_sent}
use Rattle.nm_rounds.proofs.acting.send_null.Goals as goal

pub returns-in_default : goal.returns-in_default
returns-in_default c w stands = no_null c.args.topology.now c.args.books.now c.args.bag.now.items w stands c.args.outlet.partition c.args.outlet.replica c.args.outlet.channel (sym c.in_default.ensures.value) c.args.promise

pub returns-in_default-null_with : goal.returns-in_default-null_with
returns-in_default-null_with c w stands =
    absurd (no_answer c.args.topology.now c.args.books.now c.args.bag.now.items w stands c.args.outlet.partition c.args.outlet.replica c.args.outlet.channel c.in-Some.place (sym c.in-Some.ensures.value) (c.in-Some.ensures.there refl)
    c.index-books-place.result c.index-books-place.is _ c.in_default-null_with.ensures)

pub returns : goal.returns
returns c w stands =
    subst (λ z. Steps c.args.topology.now w (null_step c.args.promise c.args.outlet.partition c.args.outlet.replica c.args.outlet.channel) (Ok (Frames 1)) c.args.books.now z) (sym c.in_ok-put.ensures.ok)
    (null_sent c.args.topology.now c.args.books.now c.args.bag.now.items w stands c.args.outlet.partition c.args.outlet.replica c.args.outlet.channel c.in-Some.place (sym c.in-Some.ensures.value) (c.in-Some.ensures.there refl)
    c.index-books-place.result c.index-books-place.is c.args.promise c.in-Some-null_with.null c.in-Some-null_with.ensures)
