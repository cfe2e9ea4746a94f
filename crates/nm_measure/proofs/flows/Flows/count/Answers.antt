use Rattle.std.proofs.Common.{rules, ◌<◌, ◌+◌, length, slice_set, sym, ap, ◌∙◌, subst, arith}
use Rattle.nm_measure.specs.Counted.{AreFlows}
use Rattle.nm_measure.specs.Flows.{sent_numbers}
use Rattle.nm_measure.specs.Lanes.{one_of}
use Rattle.nm_measure.specs.Sent.{with_sent}
use Rattle.nm_measure.specs.Ways.{own_tag}
use Rattle.nm_measure.proofs.Flowing.{flows_sent, sent_is}
use Rattle.nm_measure.proofs.Lists.{read_at}
use Rattle.nm_measure.proofs.Making.{sent_more}
use Rattle.nm_measure.proofs.flows.Flows.count.Goals as goal

pub returns-clause-sent : goal.returns-clause-sent
returns-clause-sent c =
    let counts = c.args.self.now.counts.items in
    let there : c.index.result < length counts = search rules in
    sent_more counts c.index.result c.in-Some.counts.now c.send.new.self there c.in-Some.ensures.value c.send.ensures.sent
    ∙ ap (λ i. with_sent i (sent_numbers counts)) c.index.ensures

pub returns-clause-number : goal.returns-clause-number
returns-clause-number c =
    let counts = c.args.self.now.counts.items in
    let there : c.index.result < length counts = search rules in
    λ number is. sent_is counts c.args.source c.in-Some.counts.now number (read_at counts c.args.source c.index.result c.in-Some.counts.now c.index.ensures there c.in-Some.ensures.value) is

pub returns-clause-flows : goal.returns-clause-flows
returns-clause-flows c =
    let counts = c.args.self.now.counts.items in
    let there : c.index.result < length counts = search rules in
    let at = read_at counts c.args.source c.index.result c.in-Some.counts.now c.index.ensures there c.in-Some.ensures.value in
    λ ends under number is few was.
    let same = sent_is counts c.args.source c.in-Some.counts.now number at is in
    subst (λ k. AreFlows ends (λ j. one_of j (own_tag c.args.source 0 0 0) + under j) (slice_set counts k c.send.new.self) c.args.self.now.times.items) (sym c.index.ensures)
    (flows_sent c.args.source ends under counts c.args.self.now.times.items c.in-Some.counts.now c.send.new.self was at (c.send.ensures.way (omega (arith, same, few))) c.send.ensures.ended c.send.ensures.astray)
