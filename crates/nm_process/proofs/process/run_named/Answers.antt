use Rattle.std.proofs.Common.{◌≡◌, true, subst, sym}
use Rattle.std.specs.Prelude.{IfErr, IfOk}
use Rattle.std.specs.Arc.{arc_value}
use Rattle.nm_shared.specs.Home.{home_at}
use Rattle.nm_process.specs.Process.{IsDoneReplica, IsUnfinished, is_stall}
use Rattle.nm_process.proofs.Endings.{done_end, stalled_end}
use Rattle.nm_process.proofs.process.run_named.Goals as goal

pub returns-clause-done : goal.returns-clause-done
returns-clause-done g c =
    let t = arc_value c.args.process.now.topology.now in
    let p = c.args.process.now.partition in
    let r = c.args.process.now.replica in
    subst (λ x. IfOk x (λ e. IsDoneReplica t p r e.book)) (sym c.process_end.ensures)
    (done_end t p r g.M.Naming.home c.in_ok-close.field-0 _ c.requires.home c.in_ok-close.ensures.done)

pub returns-clause-stalled : goal.returns-clause-stalled
returns-clause-stalled g c =
    let home = home_at (arc_value c.args.process.now.topology.now) c.args.process.now.partition c.args.process.now.replica in
    subst (λ x. IfErr x (λ f. is_stall f ≡ true → IsUnfinished home)) (sym c.process_end.ensures)
    (stalled_end (IsUnfinished home) c.in_ok-close.field-0 _ (λ none. subst IsUnfinished c.requires.home (c.in_ok-close.ensures.left none)))
