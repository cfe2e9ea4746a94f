use Rattle.std.proofs.Common.{◌<◌, length, sym, ap, ◌∙◌, subst, arith}
use Rattle.nm_measure.specs.Measured.{MeasuredValue}
use Rattle.std.specs.Option.{option_map}
use Rattle.nm_measure.proofs.Readings.{busy_by, missing, octets_waited, packets_waited}
use Rattle.nm_measure.proofs.measured.Measured.over_time.Goals as goal

pub returns-in-Some-clause-waited : goal.returns-in-Some-clause-waited
returns-in-Some-clause-waited c = rw (← c.self.view_is) (λ t m. c.waited.ensures ∙ packets_waited t c.args.time _ m c.args.iface c.in-Some.seen.now (sym c.get.ensures ∙ ap (option_map (λ x. x.now)) c.in-Some.is))

pub returns-in-Some-clause-octets : goal.returns-in-Some-clause-octets
returns-in-Some-clause-octets c = rw (← c.self.view_is) (λ t m. c.waited-in-Some.ensures ∙ octets_waited t c.args.time _ m c.args.iface c.in-Some.seen.now (sym c.get.ensures ∙ ap (option_map (λ x. x.now)) c.in-Some.is))

pub returns-in-Some-clause-busy : goal.returns-in-Some-clause-busy
returns-in-Some-clause-busy c = rw (← c.self.view_is) (λ t m. c.busy_before.ensures ∙ busy_by t c.args.time _ m c.args.iface c.in-Some.seen.now (sym c.get.ensures ∙ ap (option_map (λ x. x.now)) c.in-Some.is))

pub returns-in-None-clause-waited : goal.returns-in-None-clause-waited
returns-in-None-clause-waited c =
    let there = subst (λ (v : MeasuredValue). c.args.iface < length v.seen) (sym c.self.view_is) c.requires.there in
    rw (← c.self.view_is) (λ t m. absurd (missing t m.first m.events c.args.iface c.self.inside.interfaces.all.items m.seen (let n = m.seen.count in omega (arith, n, there)) (sym c.get.ensures ∙ ap (option_map (λ x. x.now)) c.in-None.is)))

pub returns-in-None-clause-octets : goal.returns-in-None-clause-octets
returns-in-None-clause-octets c =
    let there = subst (λ (v : MeasuredValue). c.args.iface < length v.seen) (sym c.self.view_is) c.requires.there in
    rw (← c.self.view_is) (λ t m. absurd (missing t m.first m.events c.args.iface c.self.inside.interfaces.all.items m.seen (let n = m.seen.count in omega (arith, n, there)) (sym c.get.ensures ∙ ap (option_map (λ x. x.now)) c.in-None.is)))

pub returns-in-None-clause-busy : goal.returns-in-None-clause-busy
returns-in-None-clause-busy c =
    let there = subst (λ (v : MeasuredValue). c.args.iface < length v.seen) (sym c.self.view_is) c.requires.there in
    rw (← c.self.view_is) (λ t m. absurd (missing t m.first m.events c.args.iface c.self.inside.interfaces.all.items m.seen (let n = m.seen.count in omega (arith, n, there)) (sym c.get.ensures ∙ ap (option_map (λ x. x.now)) c.in-None.is)))
