use Rattle.std.proofs.Common.{◌≡◌, sym, ap, subst}
use Rattle.std.specs.Prelude.{IsSomeAnd}
use Rattle.nm_base.specs.Count.{saturated}
use Rattle.nm_sim.specs.Network.{net_of}
use Rattle.nm_measure.specs.Sent.{AreSent, sent_in}
use Rattle.nm_measure.proofs.Making.{sent_found}
use Rattle.nm_measure.proofs.measured.Measured.flow.Goals as goal

pub returns-clause-sent : goal.returns-clause-sent
returns-clause-sent c = λ t until m there.
    let sent = subst (AreSent t m.events) (sym (ap (λ v. v.sent) c.self.view_is)) m.sent in
    subst (λ o. IsSomeAnd o (λ f. f.sent ≡ saturated (sent_in (net_of t) c.args.source m.events))) (sym c.flow.ensures)
    (sent_found t m.events c.self.inside.watched.flows.counts.items c.args.source sent there)
