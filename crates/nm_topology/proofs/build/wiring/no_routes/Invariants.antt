use Rattle.std.proofs.Common.{◌≡◌, ℕ, [], length, get_or}
use Rattle.nm_topology.proofs.build.wiring.no_routes.Given as goal

abbrev pub invariant-loop : goal.invariant-loop
invariant-loop l = record {
  len : length l.node_routes.items ≡ l.counter;
  empty : (j : ℕ) → get_or l.node_routes.items j [] ≡ [];
}
