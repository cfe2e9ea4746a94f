use Rattle.std.proofs.Common.{Some, ap, ◌∙◌, arith, ⊎_elim}
use Rattle.std.proofs.lemmas.Option.{slice_get_cases}
use Rattle.nm_sim.proofs.records.Records.traffic.Goals as goal

pub returns : goal.returns
returns c = λ t trace h low.
    let i = c.args.iface in
    let count = h.count in
    c.traffic_at.ensures ∙ ⊎_elim
    (λ g. g.2 ∙ ap Some (h.traffic i g.0 g.2))
    (λ g. let past = g.0 in absurd (omega (arith, low, count, past)))
    ((slice_get_cases c.args.self.now.traffic i).1)
