use Rattle.std.proofs.Common.{◌≡◌, ◌+◌, sym, subst}
use Rattle.nm_base.specs.Count.{saturated}
use Rattle.nm_sim.specs.Network.{net_of}
use Rattle.nm_measure.specs.Counted.{HasEnds}
use Rattle.nm_measure.specs.Sent.{sent_in}
use Rattle.nm_measure.specs.Ways.{ends_in}
use Rattle.nm_measure.proofs.Making.{some_or}
use Rattle.nm_measure.proofs.measured.Measured.flow_totals.Goals as goal

pub returns-clause-sent : goal.returns-clause-sent
returns-clause-sent c = λ t until m there. subst (λ f. f.sent ≡ saturated (sent_in (net_of t) c.args.source m.events)) (sym c.unwrap_or-counts.ensures)
    (some_or (λ f. f.sent ≡ saturated (sent_in (net_of t) c.args.source m.events)) c.flow.result _ (c.flow.ensures.sent t until m there))

pub returns-clause-totals : goal.returns-clause-totals
returns-clause-totals c = λ t until m there.
    let f = subst (HasEnds c.args.source (ends_in t m.events)) (sym c.unwrap_or-counts.ensures)
    (some_or (HasEnds c.args.source (ends_in t m.events)) c.flow.result _ (c.flow.ensures.ended t until m there)) in
    let x = c.delivered-sums.ensures t until m there in
    record {
      delivered = f.outcomes.delivered;
      lost = λ i. f.outcomes.refused i + f.outcomes.dropped i + f.outcomes.discarded i;
      octets = x.octets;
      delayed = x.delayed;
      differences = x.differences;
      fits = x.fits;
    }
