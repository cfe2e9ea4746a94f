use Rattle.std.proofs.Common.{◌*◌}
use Rattle.std.specs.Arc.{arc_value}
use Rattle.nm_rounds.specs.World.{AreFirst}
use Rattle.nm_rounds.proofs.world.all_replicas.Given as goal

abbrev pub invariant-loop-partition : goal.invariant-loop-partition
invariant-loop-partition l = AreFirst (arc_value l.topology) (2 * l.partition) l.books.items
