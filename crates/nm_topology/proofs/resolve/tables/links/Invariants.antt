use Rattle.std.proofs.Common.{◌≡◌, ◌<◌, All, length, drop}
use Rattle.nm_topology.specs.Resolve.{all_of, link_between}
use Rattle.nm_topology.proofs.Members.{with_front}
use Rattle.nm_topology.proofs.resolve.tables.links.Given as goal

abbrev pub invariant-loop-table : goal.invariant-loop-table
invariant-loop-table l = record {
  len : length l.links.items ≡ l.table-index;
  within : All (λ k. (k.a < length l.ifaces) × (k.b < length l.ifaces)) l.links.items;
  read : all_of (link_between l.ifaces) l.tables ≡ with_front l.links.items (all_of (link_between l.ifaces) (drop l.table-index l.tables));
}
