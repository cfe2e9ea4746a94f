use Rattle.std.proofs.Common.{slice_get, ap, sym, ◌∙◌}
use Rattle.nm_paths.proofs.Nodes.{route-absent, routes-there}
use Rattle.nm_paths.proofs.ways.route_at.Goals as goal

pub returns-in-Some : goal.returns-in-Some
returns-in-Some c =
    let routing = c.args.routing.now in
    let v = c.args.node in
    c.look.ensures.there _ (ap (λ l. slice_get l v) routing.routes ∙ routes-there routing.topology.now v _ (sym c.in-Some.ensures))

pub returns-in-None : goal.returns-in-None
returns-in-None c =
    let routing = c.args.routing.now in
    sym (route-absent routing.topology.now c.args.node routing.to (sym c.in-None.ensures))
