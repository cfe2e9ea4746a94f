use Rattle.nm_model.proofs.Orders.{part_by_node}
use Rattle.nm_model.proofs.orderly.partitions_are_by_node.Goals as goal

pub returns : goal.returns
returns g c = λ net p. part_by_node net p
