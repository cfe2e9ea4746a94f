use Rattle.nm_model.proofs.ToldMore.{key_new, told_one, told_clock}
use Rattle.nm_model.proofs.replica.told_one_more.Goals as goal

pub returns : goal.returns
returns g c = λ net ok p K k w d ch. record {
  new_key = λ b le. key_new net ok p K k w d ch b le;
  message = λ b le. told_one net ok p K k w d ch b le;
  clock = λ t le. told_clock net ok p K k w d ch t le;
}
