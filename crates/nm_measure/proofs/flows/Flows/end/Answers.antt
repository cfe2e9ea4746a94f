use Rattle.std.proofs.Common.{rules, ◌≡◌, ◌<◌, ◌≤◌, true, length, refl, subst, sym, ap, ◌∙◌, arith}
use Rattle.std.proofs.Math.Seq.{map-set_same}
use Rattle.nm_measure.specs.declared.courses.EndPlace.TheVariants.{Node}
use Rattle.nm_measure.specs.declared.courses.Reason.TheVariants.{Unknown}
use Rattle.nm_measure.specs.declared.flow_counts.FlowCounts.{FlowCounts}
use Rattle.nm_measure.specs.Counted.{is_sent}
use Rattle.nm_measure.specs.Flows.{Ends}
use Rattle.nm_measure.proofs.Flowing.{one_on_way, outcomes_none, outcomes_set, own_not}
use Rattle.nm_measure.proofs.Lists.{read_at}
use Rattle.nm_measure.proofs.Making.{sent_kept}
use Rattle.nm_measure.proofs.flows.Flows.end.Goals as goal

pub returns-in-Some-clause-sent : goal.returns-in-Some-clause-sent
returns-in-Some-clause-sent c = sent_kept c.args.self.now.counts.items c.index.result c.in-Some.counts.now c.end.new.self c.in-Some.ensures.value c.end.ensures.sent

pub returns-in-Some-clause-outcomes : goal.returns-in-Some-clause-outcomes
returns-in-Some-clause-outcomes c =
    let counts = c.args.self.now.counts.items in
    let f = c.in-Some.counts.now in
    let there : c.index.result < length counts = search rules in
    let sent : is_sent c.args.tag.now.role ≡ true = search rules in
    λ ends under e same is was. outcomes_set ends e c.args.tag.now same under counts c.index.result f c.end.new.self was
    (read_at counts c.index.result c.index.result f refl there c.in-Some.ensures.value) sent (sym c.index.ensures)
    (subst (λ o. 0 < f.under_way → Ends o f c.end.new.self) (sym is) c.end.ensures.ends)

pub returns-in-Some-clause-none : goal.returns-in-Some-clause-none
returns-in-Some-clause-none c =
    let counts = c.args.self.now.counts.items in
    let f = c.in-Some.counts.now in
    let there : c.index.result < length counts = search rules in
    let sent : is_sent c.args.tag.now.role ≡ true = search rules in
    λ is ends under was j low. absurd (one_on_way ends (record { tag = c.args.tag.now; outcome = c.args.outcome; reason = Unknown; place = Node 0; time = 0; octets = 0 }) c.args.tag.now refl under counts c.index.result f was
    (read_at counts c.index.result c.index.result f refl there c.in-Some.ensures.value) sent (sym c.index.ensures) (sym c.end.ensures.result ∙ is))

pub returns-in-None-clause-outcomes : goal.returns-in-None-clause-outcomes
returns-in-None-clause-outcomes c =
    let counts = c.args.self.now.counts.items in
    let past : length counts ≤ c.index.result = search rules in
    let at = c.index.ensures in
    λ ends under e same is was. outcomes_none ends e c.args.tag.now same under counts was (λ j low. own_not j c.args.tag.now (λ eq. omega (arith, past, low, eq, at)))

pub returns-in-None-clause-none : goal.returns-in-None-clause-none
returns-in-None-clause-none c =
    let counts = c.args.self.now.counts.items in
    let past : length counts ≤ c.index.result = search rules in
    let at = c.index.ensures in
    λ is ends under was j low. own_not j c.args.tag.now (λ eq. omega (arith, past, low, eq, at))

pub returns-in-Some-clause-astray : goal.returns-in-Some-clause-astray
returns-in-Some-clause-astray c = map-set_same (λ (f : FlowCounts). f.astray) c.args.self.now.counts.items c.index.result c.end.new.self c.in-Some.counts.now (c.end.ensures.astray ∙ ap (λ (f : FlowCounts). f.astray) c.in-Some.ensures.value)
