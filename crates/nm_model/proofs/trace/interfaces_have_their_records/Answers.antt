use Rattle.std.proofs.Common.{◌==◌, sym, ap, ◌∙◌}
use Rattle.nm_model.proofs.ListLemmas.{number_tied}
use Rattle.nm_model.proofs.Traces.{same_records}
use Rattle.nm_model.proofs.trace.interfaces_have_their_records.Goals as goal

pub returns : goal.returns
returns g c = λ net p i last e. same_records net p i (ap (λ z. z == p) (sym e) ∙ number_tied p) last
