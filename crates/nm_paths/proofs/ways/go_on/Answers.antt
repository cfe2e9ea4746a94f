use Rattle.std.proofs.Common.{◌≡◌, ◌-◌, ap, sym, ◌∙◌, ap₂, arith, append-nil}
use Rattle.nm_paths.specs.declared.turn.WalkEnd.TheVariants.{Expired}
use Rattle.nm_paths.specs.Walks.{behind, course, node_behind}
use Rattle.nm_paths.proofs.Courses.{course-leaves, course-none, course-stops}
use Rattle.nm_paths.proofs.ways.go_on.Goals as goal

pub returns-in-Stops : goal.returns-in-Stops
returns-in-Stops c =
    let t = c.args.routing.now.topology.now in
    let left = c.loop-left.left in
    let hops = c.loop-left.hops.items in
    sym (c.loop-left.invariant
    ∙ course-stops t c.args.routing.now.to (left - 1) left c.loop-left.node hops c.in-Stops.ending (omega arith)
    (sym c.turn_at.ensures ∙ c.in-Stops.is))

pub loop-left-preserved : goal.loop-left-preserved
loop-left-preserved c =
    let t = c.args.routing.now.topology.now in
    let left = c.loop-left.left in
    let hops = c.loop-left.hops.items in
    c.loop-left.invariant
    ∙ course-leaves t c.args.routing.now.to (left - 1) left c.loop-left.node c.in-Leaves.via hops (omega arith)
    (sym c.turn_at.ensures ∙ c.in-Leaves.is)
    ∙ sym (ap₂ (λ l v. behind l (course t c.args.routing.now.to (left - 1) v)) c.in_ok-push-in-Leaves.ensures.items
    (c.node_behind-node.ensures ∙ ap (λ l. node_behind l c.in-Leaves.via) c.ifaces.ensures))

pub returns : goal.returns
returns c =
    let t = c.args.routing.now.topology.now in
    let hops = c.loop-left.hops.items in
    let none : c.loop-left.left ≡ 0 = omega arith in
    sym (c.loop-left.invariant
    ∙ ap (λ n. behind hops (course t c.args.routing.now.to n c.loop-left.node)) none
    ∙ ap (behind hops) (course-none t c.args.routing.now.to c.loop-left.node)
    ∙ ap (λ l. (l, Expired)) (append-nil hops))
