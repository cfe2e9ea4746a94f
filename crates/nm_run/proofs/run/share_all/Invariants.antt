use Rattle.std.proofs.Common.{◌+◌, ◌*◌, map}
use Rattle.nm_run.proofs.Replicas.{AreFirst}
use Rattle.nm_run.proofs.run.share_all.Given as goal

abbrev pub invariant-loop-partition : goal.invariant-loop-partition
invariant-loop-partition l = AreFirst (l.partition * l.plan.replicas) l.plan.replicas (map (λ b. (b.partition, b.replica)) l.books.items)

abbrev pub invariant-loop-replica : goal.invariant-loop-replica
invariant-loop-replica l =
    AreFirst (l.partition * l.plan.replicas + l.replica) l.plan.replicas (map (λ b. (b.partition, b.replica)) l.books.items)
