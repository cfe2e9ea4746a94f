use Rattle.std.proofs.Common.{◌+◌, ap, sym}
use Rattle.nm_measure.specs.Lanes.{one_of}
use Rattle.nm_measure.specs.Ways.{own_tag}
use Rattle.nm_measure.proofs.Flowing.{flows_under}
use Rattle.nm_measure.proofs.flows.Flows.send.Goals as goal

pub returns-clause-flows : goal.returns-clause-flows
returns-clause-flows c = λ ends under number is few was.
    flows_under ends (λ j. one_of j (own_tag c.args.source 0 0 0) + under j) (λ j. one_of j c.of_source.result + under j) c.note_begin.new.self.counts.items c.note_begin.new.self.times.items
    (λ j. ap (λ tag. one_of j tag + under j) (sym c.of_source.ensures))
    (c.note_begin.ensures.flows ends (λ j. one_of j (own_tag c.args.source 0 0 0) + under j) (c.count-number.ensures.flows ends under number is few was))
