use Rattle.std.proofs.Common.{◌≡◌, None, drop, min, ap, ◌∙◌, subst}
use Rattle.nm_model.specs.Before.{IsBefore}
use Rattle.nm_model.specs.Run.{one_list}
use Rattle.nm_sim.specs.Network.{net_of}
use Rattle.nm_sim.specs.Records.{cut}
use Rattle.nm_sim.proofs.trace.one_list.Goals as goal

pub returns : goal.returns
returns c =
    let t = c.args.topology.now in
    let before : c.earlier-before.result ≡ min c.args.until t.stop = c.earlier-before.ensures ∙ ap (min c.args.until) c.stop.ensures in
    let ran = c.in_ok-run.ensures.done in (
      ran.0,
      subst (λ b. IsBefore (net_of t) b ran.0) before ran.1,
      c.into_trace.ensures t None (one_list (net_of t) ran.0) ran.2 ∙ ap (λ k. drop k.handed (cut k.wanted (one_list (net_of t) ran.0).records)) c.in_ok-run.ensures.whole,
    )
