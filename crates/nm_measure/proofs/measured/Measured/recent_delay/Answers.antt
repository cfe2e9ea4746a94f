use Rattle.std.proofs.Common.{◌≡◌, Some, slice_get, sym, ap, ◌∙◌, subst, arith}
use Rattle.std.specs.Option.{option_map}
use Rattle.std.specs.Prelude.{IsSomeAnd}
use Rattle.nm_measure.specs.Counted.{delays_of}
use Rattle.nm_measure.specs.Delays.{greatest_behind}
use Rattle.nm_measure.specs.Starts.{begun_in}
use Rattle.nm_measure.specs.Ways.{ends_in}
use Rattle.nm_measure.proofs.Starting.{begun_found, delays_few, start_found}
use Rattle.nm_measure.proofs.measured.Measured.recent_delay.Goals as goal

pub returns-in-Some : goal.returns-in-Some
returns-in-Some c = rw (← c.self.view_is) (λ t first until recent m low.
    let j = c.args.source in
    let all = c.self.inside.watched.flows.times.items in
    let x = c.in-Some.times.now in
    let at : slice_get all j ≡ Some x = sym c.times.ensures ∙ ap (option_map (λ x. x.now)) c.in-Some.is in
    let most = c.events.ensures.most in
    let value = c.events.ensures.value in
    let steps = m.steps in
    let since = recent.seen.since in
    let now = delays_few t j m.events in
    let then = delays_few t j first in
    let ds = delays_of j (ends_in t m.events) in
    c.recent.ensures ds (m.watched.numbers.arrivals j x at).delays (omega (arith, now, most, value, steps))
    ∙ ap (λ k. greatest_behind k ds) (let seen = (start_found t first c.self.inside.part.steps all recent.starts j x at).1 in omega (arith, seen, then, since, most, value)))

pub returns-in-None : goal.returns-in-None
returns-in-None c = rw (← c.self.view_is) (λ t first until recent m low.
    let j = c.args.source in
    absurd (subst (λ o. IsSomeAnd o (λ x. x.begun ≡ begun_in t j m.events)) (sym c.times.ensures ∙ ap (option_map (λ x. x.now)) c.in-None.is)
    (begun_found t m.first m.events c.self.inside.watched.flows.times.items m.starts j low)))
