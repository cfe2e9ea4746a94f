use Rattle.nm_model.proofs.Ends.{made_few}
use Rattle.nm_model.proofs.Stated as laws
use Rattle.nm_model.proofs.run.events_make_later_ones.Goals as goal

pub returns-clause-later : goal.returns-clause-later
returns-clause-later g c = λ net ok. record {
  later = λ n e l m f a. laws.makes_later net ok n e l m f a;
  later_in_part = λ p K k e l m f a. laws.makes_later_there net ok p K k e l m f a;
}

pub returns-clause-few : goal.returns-clause-few
returns-clause-few g c = λ net s e. made_few net s e
