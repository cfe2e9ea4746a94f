use Rattle.std.proofs.Common.{ap, ◌∙◌, unwrap_or}
use Rattle.nm_model.specs.Run.{one_list}
use Rattle.nm_sim.specs.Network.{net_of}
use Rattle.nm_report.proofs.Pieces.{count_here}
use Rattle.nm_report.proofs.csv.count_of.Goals as goal

pub returns : goal.returns
returns c = λ t until m there.
    c.unwrap_or.ensures ∙ ap (λ o. unwrap_or o 0) (c.counter.ensures t until m) ∙ count_here t (one_list (net_of t) m.events) c.args.node c.args.counter there
