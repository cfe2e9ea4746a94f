use Rattle.std.proofs.Common.{◌≡◌, ◌≤◌, max, map, drop}
use Rattle.nm_topology.specs.Build.{partition_count}
use Rattle.nm_topology.proofs.build.partitions.partition_count.Given as goal

abbrev pub invariant-loop-table : goal.invariant-loop-table
invariant-loop-table l = record {
  within : l.count ≤ 64;
  value : max l.count (partition_count (map (λ n. n.partition) (drop l.table-index l.tables))) ≡ partition_count (map (λ n. n.partition) l.tables);
}
