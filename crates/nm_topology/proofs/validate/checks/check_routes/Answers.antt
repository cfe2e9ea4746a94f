use Rattle.std.proofs.Common.{◌≡◌, ℕ, Bool, ◌&&◌, not, nat_eq, List, map, sym, ap, ◌∙◌}
use Rattle.nm_topology.specs.declared.fault.Refusal.TheVariants.{DoubleRoute}
use Rattle.nm_topology.specs.declared.parts.PlacedRoute.{PlacedRoute}
use Rattle.nm_topology.specs.Names.{has_double}
use Rattle.nm_topology.specs.Fault.{demand}
use Rattle.nm_topology.specs.Validate.{route_key, same_route}
use Rattle.nm_topology.proofs.Doubles.{has_double-map}
use Rattle.nm_topology.proofs.validate.checks.check_routes.Goals as goal

abbrev same_key : ℕ × ℕ × ℕ → ℕ × ℕ × ℕ → Bool
same_key x y = (nat_eq x.0 y.0 && nat_eq x.1 y.1) && nat_eq x.2 y.2

answer : (routes : List PlacedRoute) (keys : List (ℕ × ℕ × ℕ)) (b : Bool) → keys ≡ map route_key routes → has_double same_key keys ≡ b → demand (not (has_double same_route routes)) DoubleRoute ≡ demand (not b) DoubleRoute
answer routes keys b e h = ap (λ d. demand (not d) DoubleRoute) (sym (has_double-map same_key route_key routes) ∙ ap (has_double same_key) (sym e) ∙ h)

pub returns-in-Some : goal.returns-in-Some
returns-in-Some c =
    let h = rw c.in-Some.is at c.in_ok-distinct.ensures in
    answer c.args.routes.now c.deref.result.now _ (c.deref.ensures.value ∙ c.in_ok-keys.ensures) h.0

pub returns : goal.returns
returns c =
    let h = rw c.in-None.is at c.in_ok-distinct.ensures in
    answer c.args.routes.now c.deref.result.now _ (c.deref.ensures.value ∙ c.in_ok-keys.ensures) h
