use Rattle.std.proofs.Common.{◌≡◌, sym, subst}
use Rattle.nm_base.specs.Count.{saturated}
use Rattle.nm_sim.specs.Network.{net_of}
use Rattle.nm_measure.specs.Counted.{HasEnds}
use Rattle.nm_measure.specs.Sent.{sent_in}
use Rattle.nm_measure.specs.Ways.{ends_in}
use Rattle.nm_measure.specs.declared.flow_counts.FlowCounts.{FlowCounts}
use Rattle.nm_report.proofs.Pieces.{some_or}
use Rattle.nm_report.proofs.source_tables.flow_of.Goals as goal

pub returns-clause-ended : goal.returns-clause-ended
returns-clause-ended c = λ t until m low. (
  subst (λ (f : FlowCounts). f.sent ≡ saturated (sent_in (net_of t) c.args.source m.events)) (sym c.unwrap_or.ensures) (some_or (λ f. f.sent ≡ saturated (sent_in (net_of t) c.args.source m.events)) c.flow.result _ (c.flow.ensures.sent t until m low)),
  subst (HasEnds c.args.source (ends_in t m.events)) (sym c.unwrap_or.ensures) (some_or (HasEnds c.args.source (ends_in t m.events)) c.flow.result _ (c.flow.ensures.ended t until m low)),
)
