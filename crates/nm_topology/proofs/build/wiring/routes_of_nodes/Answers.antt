use Rattle.std.proofs.Common.{◌≡◌, ℕ, ◌+◌, ◌<◌, ◌++◌, [], map, length, get_or, drop, zero-add}
use Rattle.std.proofs.Common.{append-nil, subst, sym, ap, ◌∙◌}
use Rattle.std.proofs.lemmas.List.{drop_all}
use Rattle.nm_topology.specs.Build.{routes_at, numbers_from}
use Rattle.nm_topology.proofs.Uses.{map-numbers}
use Rattle.nm_topology.proofs.build.wiring.routes_of_nodes.Goals as goal

pub returns-clause-list : goal.returns-clause-list
returns-clause-list c =
    let node_routes = c.loop-placed.node_routes.items in
    let routes = c.args.routes.now in
    let over : drop c.loop-placed.placed-index routes ≡ [] = drop_all c.loop-placed.placed-index routes c.loop-placed-test.false in
    let each : (j : ℕ) → j < length node_routes → get_or node_routes j [] ≡ routes_at (0 + j) routes = λ j h.
    sym (append-nil (get_or node_routes j [])) ∙ ap (λ rs. get_or node_routes j [] ++ routes_at j rs) (sym over)
    ∙ c.loop-placed.invariant.routes j (subst (λ m. j < m) c.loop-placed.invariant.len h)
    ∙ ap (λ k. routes_at k routes) (sym (zero-add j))
    in
    map-numbers [] (λ j. routes_at j routes) node_routes 0 each ∙ ap (λ m. map (λ j. routes_at j routes) (numbers_from 0 m)) c.loop-placed.invariant.len
