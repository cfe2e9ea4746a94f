use Rattle.std.proofs.Common.{arith}
use Rattle.std.proofs.lemmas.Grind.{common_steps}
use Rattle.nm_topology.proofs.parse.arrays.each.Goals as goal

pub returns-in_err-member-clause-value : goal.returns-in_err-member-clause-value
returns-in_err-member-clause-value g c = grind (arith, common_steps)

pub loop-item-preserved : goal.loop-item-preserved
loop-item-preserved g c = grind (arith, common_steps)

pub returns-clause-value : goal.returns-clause-value
returns-clause-value g c = grind (arith, common_steps)
