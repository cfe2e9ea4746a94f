use Rattle.std.proofs.Common.{nat_eq, ap, sym, ◌∙◌}
use Rattle.std.specs.List.{list_any}
use Rattle.nm_paths.proofs.Nodes.{own-absent, own-there}
use Rattle.nm_paths.proofs.ways.is_own.Goals as goal

pub returns-in-Some : goal.returns-in-Some
returns-in-Some c =
    let routing = c.args.routing.now in
    c.is_holder.ensures ∙ ap (list_any (nat_eq c.args.node)) routing.held
    ∙ sym (own-there routing.topology.now c.args.node routing.to _ (sym c.in-Some.ensures))

pub returns-in-None : goal.returns-in-None
returns-in-None c =
    let routing = c.args.routing.now in
    sym (own-absent routing.topology.now c.args.node routing.to (sym c.in-None.ensures))
