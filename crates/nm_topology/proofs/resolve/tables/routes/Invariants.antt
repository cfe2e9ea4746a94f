use Rattle.std.proofs.Common.{◌≡◌, ◌<◌, All, length, drop}
use Rattle.std.specs.Prelude.{slice_index}
use Rattle.nm_topology.specs.Resolve.{all_of, placed_route}
use Rattle.nm_topology.proofs.Members.{with_front}
use Rattle.nm_topology.proofs.resolve.tables.routes.Given as goal

abbrev pub invariant-loop-table : goal.invariant-loop-table
invariant-loop-table l = record {
  nodes : All (λ r. r.node < length l.nodes) l.routes.items;
  own : All (λ r. (r.route.via < length l.ifaces) × (slice_index l.owners r.route.via ≡ r.node)) l.routes.items;
  read : all_of (placed_route l.nodes l.ifaces l.owners) l.tables ≡ with_front l.routes.items (all_of (placed_route l.nodes l.ifaces l.owners) (drop l.table-index l.tables));
}
