use Rattle.std.proofs.Common.{rules, ◌≡◌, ◌<◌, [], ◌∷◌, Some, length, slice_set, sym, subst}
use Rattle.nm_model.specs.Lists.{set_at}
use Rattle.nm_measure.specs.Lanes.{AreWatched}
use Rattle.nm_measure.proofs.Laning.{leaves_link}
use Rattle.nm_measure.proofs.Lists.{read_at}
use Rattle.nm_measure.proofs.watched.Watched.leave_link.Goals as goal

pub returns-in-Some-clause-watches : goal.returns-in-Some-clause-watches
returns-in-Some-clause-watches c =
    let w = c.args.self.now in
    let x = c.in-Some.lane.now in
    let y = c.arrive.new.self in
    let there : c.index.result < length w.lanes.items = search rules in
    let at = read_at w.lanes.items c.args.from c.index.result x c.index.ensures there c.in-Some.ensures.value in
    λ count all tag on ends was low first.
    subst (λ k. (c.arrive.result ≡ Some tag) × AreWatched count (set_at all c.args.from (on, (all c.args.from).1)) (tag ∷ []) ends (slice_set w.lanes.items k y) w.flows.counts.items w.flows.times.items) (sym c.index.ensures)
    (leaves_link count all ends w.lanes.items w.flows.counts.items w.flows.times.items c.args.from x y at c.arrive.result tag on was first c.arrive.ensures.line c.arrive.ensures.waiting)
