use Rattle.std.proofs.Common.{arith}
use Rattle.std.proofs.lemmas.Grind.{common_steps}
use Rattle.nm_topology.proofs.validate.checks.count_use.Goals as goal

pub returns : goal.returns
returns c = grind (arith, common_steps)
