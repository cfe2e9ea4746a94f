use Rattle.std.proofs.Common.{rules, ◌≡◌, ◌+◌, ◌-◌, ◌<◌, ◌≤◌, ℕ, List, [], ◌∷◌, ◌++◌, length, map, true, false, refl, subst, sym, ap, ◌∙◌, arith}
use Rattle.nm_base.specs.Count.{saturated}
use Rattle.nm_measure.specs.Counted.{AreFlows}
use Rattle.nm_measure.specs.Delays.{AreDelays}
use Rattle.nm_measure.specs.Lanes.{one_of}
use Rattle.nm_measure.proofs.Flowing.{flows_delivered, flows_end, on_ok, own_not}
use Rattle.nm_measure.proofs.Lists.{read_at}
use Rattle.nm_measure.specs.Starts.{start_of}
use Rattle.nm_measure.proofs.Starting.{start_kept}
use Rattle.nm_measure.proofs.flows.Flows.deliver.Goals as goal

pub returns-then-not-end-clause-flows : goal.returns-then-not-end-clause-flows
returns-then-not-end-clause-flows c = λ ends under e same is time octets quiet was.
    let not : c.end.result ≡ false = search rules in
    let none = c.end.ensures.none not ends under was.outcomes in
    subst (λ v. AreFlows (ends ++ e ∷ []) under c.end.new.self.counts.items v.items) (sym c.end.ensures.times)
    (flows_end ends e c.args.tag.now same quiet under c.args.self.now.counts.items c.end.new.self.counts.items c.args.self.now.times.items was
    (c.end.ensures.outcomes ends under e same is was.outcomes) c.end.ensures.count c.end.ensures.astray (λ j low. none j (let l = was.same in omega (arith, low, l))))

pub returns-in-None-clause-flows : goal.returns-in-None-clause-flows
returns-in-None-clause-flows c = λ ends under e same is time octets quiet was.
    let times = c.end.new.self.times.items in
    let past : length times ≤ c.index.result = search rules in
    let at = c.index.ensures in
    subst (λ v. AreFlows (ends ++ e ∷ []) under c.end.new.self.counts.items v.items) (sym c.end.ensures.times)
    (flows_end ends e c.args.tag.now same quiet under c.args.self.now.counts.items c.end.new.self.counts.items c.args.self.now.times.items was
    (c.end.ensures.outcomes ends under e same is was.outcomes) c.end.ensures.count c.end.ensures.astray
    (λ j low. own_not j c.args.tag.now (λ eq. let l : length times ≡ length c.args.self.now.times.items = ap (λ v. length v.items) c.end.ensures.times in
    let s : c.index.result ≡ j = at ∙ eq in omega (arith, low, l, past, s))))

pub returns-in-Some-clause-flows : goal.returns-in-Some-clause-flows
returns-in-Some-clause-flows c =
    let times = c.end.new.self.times.items in
    let x = c.in-Some.times.now in
    let y = c.deliver.new.self in
    let there : c.index.result < length times = search rules in
    let ended : c.end.result ≡ true = search rules in
    on_ok c.deliver.result _ _ (λ added ends under e same is time octets quiet was.
    flows_delivered ends e c.args.tag.now same quiet is (c.end.ensures.ended ended) under c.args.self.now.counts.items c.end.new.self.counts.items times
    (subst (λ v. AreFlows ends (λ j. one_of j c.args.tag.now + under j) c.args.self.now.counts.items v.items) (sym c.end.ensures.times) was)
    (c.end.ensures.outcomes ends under e same is was.outcomes) c.end.ensures.count c.end.ensures.astray c.index.result x y c.deliver.ensures.trips
    (read_at times c.index.result c.index.result x refl there c.in-Some.ensures.value) (sym c.index.ensures)
    (subst (λ n. (ds : List ℕ) → AreDelays ds x.delays → AreDelays (ds ++ (n - c.args.tag.now.at) ∷ []) y.delays) (sym time) added)
    (c.deliver.ensures.octets ∙ ap (λ n. saturated (x.octets + n)) (sym octets)) (c.deliver.ensures.ended ∙ sym time)) c.deliver.ensures.added

pub returns-in-Some-clause-starts : goal.returns-in-Some-clause-starts
returns-in-Some-clause-starts c =
    let times = c.end.new.self.times.items in
    on_ok c.deliver.result _ _ (λ same. start_kept times c.index.result c.in-Some.times.now c.deliver.new.self c.in-Some.ensures.value same ∙ ap (λ v. map start_of v.items) c.end.ensures.times) c.deliver.ensures.start
