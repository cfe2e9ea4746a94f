use Rattle.std.proofs.Common.{sym, subst}
use Rattle.std.specs.Arc.{arc_value}
use Rattle.nm_rounds.specs.World.{AreFirst}
use Rattle.nm_rounds.proofs.Replays.{first_none}
use Rattle.nm_rounds.proofs.world.all_replicas.Goals as goal

pub loop-partition-init : goal.loop-partition-init
loop-partition-init c = subst (AreFirst (arc_value c.args.topology.now) 0) (sym c.new-books.ensures.items) (first_none (arc_value c.args.topology.now))
