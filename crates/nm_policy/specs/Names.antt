-- Names of replicas.
use Rattle.std.specs.Prelude.{Bool, ◌==◌, ◌&&◌}
use Rattle.nm_frames.specs.declared.replica_name.ReplicaName.{ReplicaName}

-- two names are those of one replica
abbrev pub are_same : ReplicaName → ReplicaName → Bool
are_same one other = (one.partition == other.partition) && (one.replica == other.replica)
