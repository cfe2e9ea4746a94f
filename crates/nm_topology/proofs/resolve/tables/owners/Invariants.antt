use Rattle.std.proofs.Common.{◌≡◌, ◌<◌, All, length, drop}
use Rattle.nm_topology.specs.Resolve.{all_of, owner_of}
use Rattle.nm_topology.proofs.Members.{with_front}
use Rattle.nm_topology.proofs.resolve.tables.owners.Given as goal

abbrev pub invariant-loop-table : goal.invariant-loop-table
invariant-loop-table l = record {
  len : length l.owners.items ≡ l.table-index;
  within : All (λ n. n < length l.nodes) l.owners.items;
  read : all_of (owner_of l.nodes) l.tables ≡ with_front l.owners.items (all_of (owner_of l.nodes) (drop l.table-index l.tables));
}
