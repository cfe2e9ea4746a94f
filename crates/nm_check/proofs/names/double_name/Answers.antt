use Rattle.std.proofs.Common.{◌∙◌, ap, map}
use Rattle.nm_check.proofs.Repeats.{double-names}
use Rattle.nm_check.proofs.names.double_name.Goals as goal

pub returns : goal.returns
returns g c =
    double-names c.first_double.result c.deref.result.now (map g.T.Named.name c.args.items.now)
    (ap (map (λ k. k.now)) c.deref.ensures.value ∙ c.in_ok-names.ensures.names)
    c.first_double.ensures
