use Rattle.std.proofs.Common.{◌≡◌, ℕ, ◌<◌, ◌++◌, [], length, get_or, drop}
use Rattle.nm_topology.specs.Build.{routes_at}
use Rattle.nm_topology.proofs.build.wiring.routes_of_nodes.Given as goal

abbrev pub invariant-loop-placed : goal.invariant-loop-placed
invariant-loop-placed l = record {
  len : length l.node_routes.items ≡ l.count;
  routes : (j : ℕ) → j < l.count → get_or l.node_routes.items j [] ++ routes_at j (drop l.placed-index l.routes) ≡ routes_at j l.routes;
}
