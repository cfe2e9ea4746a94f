use Rattle.nm_model.proofs.Worlds.{advance_is}
use Rattle.nm_model.proofs.world.a_run_goes_to_what_is_safe.Goals as goal

pub returns : goal.returns
returns g c = λ net ok p K count n k a le. advance_is net p K count a n k le
