use Rattle.std.proofs.Common.{rules, ◌≡◌, ◌<◌, ◌≤◌, ◌-◌, ◌==◌, ◌++◌, ◌∷◌, ℕ, [], true, false, length, refl, sym, ap, subst, ◌∙◌, arith}
use Rattle.nm_measure.specs.Counted.{is_at_home, is_reply, is_told}
use Rattle.nm_measure.specs.Delays.{AreDelays}
use Rattle.nm_measure.specs.declared.tag.Tag.{Tag}
use Rattle.nm_measure.proofs.Flowing.{flows_answered, flows_strayed, flows_unasked, on_ok}
use Rattle.nm_measure.proofs.Lists.{read_at}
use Rattle.nm_measure.proofs.Making.{sent_kept}
use Rattle.nm_measure.proofs.Starting.{start_kept}
use Rattle.nm_measure.proofs.flows.Flows.answer.Goals as goal

pub returns-in-Some-get_mut-clause-sent : goal.returns-in-Some-get_mut-clause-sent
returns-in-Some-get_mut-clause-sent c = sent_kept c.args.self.now.counts.items c.index-source.result c.in-Some-get_mut.counts.now c.go_astray.new.self c.in-Some-get_mut.ensures.value c.go_astray.ensures.sent

pub returns-in-Some-get_mut-clause-flows : goal.returns-in-Some-get_mut-clause-flows
returns-in-Some-get_mut-clause-flows c = λ ends under e same time reason place was.
    let counts = c.args.self.now.counts.items in
    let k = c.index-source.result in
    let there : k < length counts = search rules in
    let away : (c.args.arrival.node == c.args.tag.now.home) ≡ false = search rules in
    flows_strayed ends e under counts c.args.self.now.times.items (ap (λ tag. is_reply tag.role) same ∙ c.requires) (ap is_told reason) (ap (is_at_home e.place) (ap (λ tag. tag.home) same) ∙ ap (λ p. is_at_home p c.args.tag.now.home) place ∙ away) was
    k c.in-Some-get_mut.counts.now c.go_astray.new.self (read_at counts k k c.in-Some-get_mut.counts.now refl there c.in-Some-get_mut.ensures.value)
    (ap (λ tag. tag.source) same ∙ sym c.index-source.ensures) c.go_astray.ensures.same c.go_astray.ensures.astray

pub returns-in-Some-clause-flows : goal.returns-in-Some-clause-flows
returns-in-Some-clause-flows c =
    let times = c.args.self.now.times.items in
    let x = c.in-Some.times.now in
    let y = c.answer.new.self in
    let k = c.index-source.result in
    let there : k < length times = search rules in
    let home : (c.args.arrival.node == c.args.tag.now.home) ≡ true = search rules in
    on_ok c.answer.result _ _ (λ added ends under e same time reason place was.
    flows_answered ends e under c.args.self.now.counts.items times (ap (λ tag. is_reply tag.role) same ∙ c.requires) (ap is_told reason) (ap (is_at_home e.place) (ap (λ tag. tag.home) same) ∙ ap (λ p. is_at_home p c.args.tag.now.home) place ∙ home) was
    k x y (read_at times k k x refl there c.in-Some.ensures.value) (ap (λ tag. tag.source) same ∙ sym c.index-source.ensures) c.answer.ensures.delays c.answer.ensures.octets c.answer.ensures.ended
    (λ ds h. subst (λ (p : ℕ × Tag). AreDelays (ds ++ (p.0 - p.1.at) ∷ []) y.round_trips) (λ i. (sym time i, sym same i)) (added ds h))) c.answer.ensures.added

pub returns-in-None-clause-flows : goal.returns-in-None-clause-flows
returns-in-None-clause-flows c = λ ends under e same time reason place was.
    let times = c.args.self.now.times.items in
    let past : length times ≤ c.index-source.result = search rules in
    let at = c.index-source.ensures in
    let source = ap (λ tag. tag.source) same in
    let count = was.same in
    flows_unasked ends e under c.args.self.now.counts.items times (ap (λ tag. is_reply tag.role) same ∙ c.requires) (omega (arith, past, at, source, count)) was

pub returns-in_default-clause-flows : goal.returns-in_default-clause-flows
returns-in_default-clause-flows c = λ ends under e same time reason place was.
    let counts = c.args.self.now.counts.items in
    let past : length counts ≤ c.index-source.result = search rules in
    let at = c.index-source.ensures in
    let source = ap (λ tag. tag.source) same in
    flows_unasked ends e under counts c.args.self.now.times.items (ap (λ tag. is_reply tag.role) same ∙ c.requires) (omega (arith, past, at, source)) was

pub returns-in-Some-clause-starts : goal.returns-in-Some-clause-starts
returns-in-Some-clause-starts c = start_kept c.args.self.now.times.items c.index-source.result c.in-Some.times.now c.answer.new.self c.in-Some.ensures.value c.answer.ensures.start
