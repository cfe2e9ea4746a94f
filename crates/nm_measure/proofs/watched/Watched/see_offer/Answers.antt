use Rattle.std.proofs.Common.{rules, ◌<◌, [], ◌∷◌, ◌∙◌, length, slice_set, sym, subst, append-nil}
use Rattle.nm_model.specs.declared.offering.Offering.TheVariants.{Started}
use Rattle.nm_measure.specs.Lanes.{AreWatched, CanBe, with_offer, with_wait}
use Rattle.nm_measure.proofs.Flowing.{ok_both, on_ok}
use Rattle.nm_measure.proofs.Laning.{offered_as, nothing_in_hand, waits_behind}
use Rattle.nm_measure.proofs.Lists.{read_at}
use Rattle.nm_measure.proofs.watched.Watched.see_offer.Goals as goal

pub returns-in-Started-clause-watches : goal.returns-in-Started-clause-watches
returns-in-Started-clause-watches c =
    let new = c.see_start.new.self in
    on_ok c.see_start.result _ _ (λ starts count all ends end drops can none was.
    let may = subst (CanBe count all) c.in-Started.is can in
    offered_as count all ends c.args.offering _ c.in-Started.is c.args.tag end new.lanes.items new.flows.counts.items new.flows.times.items
    (subst (λ l. AreWatched count (with_offer (Started c.in-Started.iface) c.args.tag all) [] l new.lanes.items new.flows.counts.items new.flows.times.items) (sym (append-nil ends))
    (starts count all ends was may.0 may.1))) c.see_start.ensures.watches

pub returns-in-Some-clause-watches : goal.returns-in-Some-clause-watches
returns-in-Some-clause-watches c =
    let w = c.args.self.now in
    let x = c.in-Some.lane.now in
    let y = c.wait.new.self in
    let i = c.in-Waits.iface in
    let there : c.index.result < length w.lanes.items = search rules in
    let at = read_at w.lanes.items i c.index.result x c.index.ensures there c.in-Some.ensures.value in
    ok_both c.wait.result _ _ _ (λ line waiting count all ends end drops can none was.
    offered_as count all ends c.args.offering _ c.in-Waits.is c.args.tag end (slice_set w.lanes.items c.index.result y) w.flows.counts.items w.flows.times.items
    (subst (λ l. AreWatched count (with_wait i c.args.tag all) [] l (slice_set w.lanes.items c.index.result y) w.flows.counts.items w.flows.times.items) (sym (append-nil ends))
    (subst (λ k. AreWatched count (with_wait i c.args.tag all) [] ends (slice_set w.lanes.items k y) w.flows.counts.items w.flows.times.items) (sym c.index.ensures)
    (waits_behind count all ends w.lanes.items w.flows.counts.items w.flows.times.items i x y at c.args.tag was line waiting)))) c.wait.ensures.line c.wait.ensures.waiting

pub returns-in_ok-see_drop-in-Dropped-clause-watches : goal.returns-in_ok-see_drop-in-Dropped-clause-watches
returns-in_ok-see_drop-in-Dropped-clause-watches c =
    let w = c.args.self.now in
    let new = c.see_drop.new.self in
    λ count all ends end drops can none was.
    offered_as count all ends c.args.offering _ c.in-Dropped.is c.args.tag end new.lanes.items new.flows.counts.items new.flows.times.items
    (let z = drops c.in-Dropped.iface in
    c.in_ok-see_drop-in-Dropped.ensures.watches count all ends (end c.in-Dropped.iface) (z.0 ∙ sym c.get.ensures) z.1 z.2
    (subst (λ g. AreWatched count all (g ∷ []) ends w.lanes.items w.flows.counts.items w.flows.times.items) (sym c.get.ensures) was))

pub returns-in-Nothing-clause-watches : goal.returns-in-Nothing-clause-watches
returns-in-Nothing-clause-watches c =
    let w = c.args.self.now in
    λ count all ends end drops can none was.
    offered_as count all ends c.args.offering _ c.in-Nothing.is c.args.tag end w.lanes.items w.flows.counts.items w.flows.times.items
    (subst (λ l. AreWatched count all [] l w.lanes.items w.flows.counts.items w.flows.times.items) (sym (append-nil ends))
    (nothing_in_hand count all c.args.tag ends w.lanes.items w.flows.counts.items w.flows.times.items was (λ j. none j c.in-Nothing.is)))
