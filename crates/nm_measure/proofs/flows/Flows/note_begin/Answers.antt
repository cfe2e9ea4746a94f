use Rattle.std.proofs.Common.{rules, ◌<◌, ◌≤◌, length, map, refl, ap, ◌∙◌, arith}
use Rattle.nm_measure.proofs.Flowing.{flows_times_as}
use Rattle.nm_measure.proofs.Lists.{read_at}
use Rattle.nm_measure.specs.Starts.{start_of, with_begin}
use Rattle.nm_measure.proofs.Starting.{start_begun, start_past}
use Rattle.nm_measure.proofs.flows.Flows.note_begin.Goals as goal

pub returns-in-Some-clause-flows : goal.returns-in-Some-clause-flows
returns-in-Some-clause-flows c =
    let times = c.args.self.now.times.items in
    let x = c.in-Some.times.now in
    let y = c.begin.new.self in
    let there : c.index.result < length times = search rules in
    λ ends under was. flows_times_as ends under c.args.self.now.counts.items times c.index.result x y was
    (read_at times c.index.result c.index.result x refl there c.in-Some.ensures.value) c.begin.ensures.delays c.begin.ensures.trips c.begin.ensures.octets c.begin.ensures.ended

pub returns-in-Some-clause-starts : goal.returns-in-Some-clause-starts
returns-in-Some-clause-starts c =
    let times = c.args.self.now.times.items in
    let there : c.index.result < length times = search rules in
    start_begun times c.index.result c.args.now c.in-Some.times.now c.begin.new.self there c.in-Some.ensures.value c.begin.ensures.start
    ∙ ap (λ i. with_begin i c.args.now (map start_of times)) c.index.ensures

pub returns-in_default-clause-starts : goal.returns-in_default-clause-starts
returns-in_default-clause-starts c =
    let times = c.args.self.now.times.items in
    let past : length times ≤ c.index.result = search rules in
    let at = c.index.ensures in
    start_past times c.args.source c.args.now (omega (arith, past, at))
