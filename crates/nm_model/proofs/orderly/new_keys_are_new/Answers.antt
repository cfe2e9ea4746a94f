use Rattle.nm_model.proofs.Orders.{made_apart}
use Rattle.nm_model.proofs.Stated as laws
use Rattle.nm_model.proofs.orderly.new_keys_are_new.Goals as goal

pub returns : goal.returns
returns g c = λ net ok. record {
  fresh = λ here by s h e l m f a. laws.made_fresh net ok here by s h e l m f a;
  apart = λ s e m n f h lt a b. made_apart net s e m n f h lt a b;
}
