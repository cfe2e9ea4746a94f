use Rattle.std.proofs.Common.{◌++◌, ◌-◌, arith, Ok, sym, refl, subst}
use Rattle.nm_rounds.specs.World.{Steps}
use Rattle.nm_rounds.specs.declared.step.StepAnswer.TheVariants.{Frames}
use Rattle.nm_rounds.specs.declared.step.WorldStep.TheVariants.{Resend}
use Rattle.nm_rounds.proofs.Standing.{is_there}
use Rattle.nm_rounds.proofs.Sends.{again_sent, no_answer, none_so_far, nothing_to_resend}
use Rattle.nm_rounds.proofs.acting.send_again.Goals as goal

pub returns-in_default : goal.returns-in_default
returns-in_default c w stands = nothing_to_resend c.args.topology.now c.args.books.now c.args.bag.now.items w stands c.args.outlet.partition c.args.outlet.replica c.args.outlet.channel (sym c.in_default.ensures.value) c.args.number

pub returns-in_default-out_len : goal.returns-in_default-out_len
returns-in_default-out_len c w stands =
    absurd (no_answer c.args.topology.now c.args.books.now c.args.bag.now.items w stands c.args.outlet.partition c.args.outlet.replica c.args.outlet.channel c.in-Some.place (sym c.in-Some.ensures.value) (c.in-Some.ensures.there refl)
    c.index-books-place.result c.index-books-place.is _ c.in_default-out_len.ensures)

pub returns-then-number-count : goal.returns-then-number-count
returns-then-number-count c w stands =
    let count = is_there _ _ _ (sym c.in-Some-out_len.ensures) in
    none_so_far c.args.topology.now c.args.books.now c.args.bag.now.items w stands c.args.outlet.partition c.args.outlet.replica c.args.outlet.channel c.in-Some.place (sym c.in-Some.ensures.value) (c.in-Some.ensures.there refl)
    c.index-books-place.result c.index-books-place.is c.args.number (let e = c.if-number-count.true in let f = count.1 in omega (arith, e, f))

pub returns : goal.returns
returns c w stands =
    let count = is_there _ _ _ (sym c.in-Some-out_len.ensures) in
    subst (λ z. Steps c.args.topology.now w (Resend c.args.outlet.partition c.args.outlet.replica c.args.outlet.channel c.args.number) (Ok (Frames (c.in-Some-out_len.count - c.args.number))) c.args.books.now z) (sym c.in_ok-append.ensures.items)
    (subst (λ z. Steps c.args.topology.now w (Resend c.args.outlet.partition c.args.outlet.replica c.args.outlet.channel c.args.number) (Ok (Frames (z - c.args.number))) c.args.books.now (c.args.bag.now.items ++ c.in_ok-messages.messages.items)) (sym count.1)
    (again_sent c.args.topology.now c.args.books.now c.args.bag.now.items w stands c.args.outlet.partition c.args.outlet.replica c.args.outlet.channel c.in-Some.place (sym c.in-Some.ensures.value) (c.in-Some.ensures.there refl)
    c.index-books-place.result c.index-books-place.is c.args.number c.in_ok-messages.messages.items
    (let e = c.if-number-count.false in let f = count.1 in omega (arith, e, f)) c.in_ok-messages.ensures))
