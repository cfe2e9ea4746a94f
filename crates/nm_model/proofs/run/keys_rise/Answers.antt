use Rattle.nm_model.proofs.Stated as laws
use Rattle.nm_model.proofs.Runs.{keys_rise}
use Rattle.nm_model.proofs.Numbers.{consecutive}
use Rattle.nm_model.proofs.run.keys_rise.Goals as goal

pub returns : goal.returns
returns g c = λ net ok n. record {
  keys = λ e f h i. keys_rise net ok n e f h i;
  times = λ d. laws.times net ok n d;
  numbers = λ d e m pl. laws.numbers net ok n d e m pl;
  consecutive = λ e m. consecutive net ok n e m;
}
