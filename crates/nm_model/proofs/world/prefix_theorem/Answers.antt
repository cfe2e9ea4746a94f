use Rattle.std.proofs.Common.{not}
use Rattle.nm_base.specs.declared.key.Place.TheVariants.{Arrive}
use Rattle.nm_model.specs.Partition.{in_part}
use Rattle.nm_model.proofs.Cut.{and_both}
use Rattle.nm_model.proofs.Worlds.{all_fine, all_valid, all_within}
use Rattle.nm_model.proofs.Stated as laws
use Rattle.nm_model.proofs.world.prefix_theorem.Goals as goal

pub returns : goal.returns
returns g c = λ net ok same eq steps. record {
  replicas = λ p r.
      let valid = all_valid net ok same eq steps p r in
      let within = all_within net ok same eq steps p r in
      record {
        valid = valid;
        within = within;
        prefix = λ last b. laws.prefix net ok p _ valid _ last within b;
        exact = λ n a b. laws.exact net ok p _ valid _ n a b;
        agrees = λ n e. laws.agrees net ok p _ valid _ n within e;
        sent = λ d last b out. laws.out_begins net ok p _ valid _ last d within b (and_both _ (not (in_part net p (Arrive d))) out).0;
        promised = λ d last b out i x le e kind. laws.out_goes_on net ok p _ valid _ last d within b (and_both _ (not (in_part net p (Arrive d))) out).0 i x le e kind;
      };
  only_gaps = all_fine net ok same eq steps;
}
