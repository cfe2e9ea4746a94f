use Rattle.std.proofs.Common.{refl}
use Rattle.std.specs.Fmt.{digits}
use Rattle.nm_topology.specs.Parse.Forms.{least_below}
use Rattle.nm_command.proofs.laws.numbers_in_words.Goals as goal

pub returns : goal.returns
unfolding digits least_below
returns c = (refl, refl, refl, refl, refl)
