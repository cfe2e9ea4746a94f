use Rattle.std.proofs.Common.{arith}
use Rattle.std.proofs.lemmas.Grind.{common_steps}
use Rattle.nm_topology.proofs.validate.checks.check_route_counts.Goals as goal

pub loop-routes-preserved : goal.loop-routes-preserved
loop-routes-preserved c = grind (arith, common_steps)
