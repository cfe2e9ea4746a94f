use Rattle.std.proofs.Common.{arith}
use Rattle.std.proofs.lemmas.Grind.{common_steps}
use Rattle.nm_topology.proofs.topology.Topology.channel_of.Goals as goal

pub loop-receiver-preserved : goal.loop-receiver-preserved
loop-receiver-preserved c = grind (arith, common_steps)
