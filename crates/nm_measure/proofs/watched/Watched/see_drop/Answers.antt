use Rattle.std.proofs.Common.{ap}
use Rattle.nm_measure.specs.Counted.{is_told}
use Rattle.nm_measure.proofs.Flowing.{on_ok, quiet_because}
use Rattle.nm_measure.proofs.watched.Watched.see_drop.Goals as goal

pub returns-clause-watches : goal.returns-clause-watches
returns-clause-watches c = on_ok c.see_loss.result _ _ (λ loses count all ends end same is reason was.
    loses count all ends end same is (quiet_because end (ap is_told reason)) was) c.see_loss.ensures.watches
