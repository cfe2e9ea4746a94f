use Rattle.std.proofs.Common.{◌≡◌, length, drop}
use Rattle.std.specs.List.{list_all}
use Rattle.std.specs.Prelude.{nat_le}
use Rattle.nm_base.specs.declared.limits.TheConstants.{MAX_ROUTES_OF_NODE}
use Rattle.nm_topology.proofs.validate.checks.check_route_counts.Given as goal

abbrev pub invariant-loop-routes : goal.invariant-loop-routes
invariant-loop-routes l =
    list_all (λ t. nat_le (length t) MAX_ROUTES_OF_NODE) (drop l.routes-index l.node_routes) ≡ list_all (λ t. nat_le (length t) MAX_ROUTES_OF_NODE) l.node_routes
