use Rattle.std.proofs.Common.{refl, ◌∙◌}
use Rattle.nm_base.specs.declared.key.Place.TheVariants.{Arrive}
use Rattle.nm_base.specs.Key.{key_of}
use Rattle.nm_model.proofs.Keys.{get_empty}
use Rattle.nm_model.proofs.Begin.{no_source}
use Rattle.nm_model.proofs.Books.{untold_step}
use Rattle.nm_model.proofs.orderly.only_messages_bring_arrivals.Goals as goal

pub returns : goal.returns
returns g c = λ net. record {
  opens = λ here d t n. no_source net 0 (key_of t (Arrive d) n) d refl here _ ∙ get_empty (key_of t (Arrive d) n);
  steps = λ ok p s h d t n ch none. untold_step net ok p s h d t n ch none;
}
