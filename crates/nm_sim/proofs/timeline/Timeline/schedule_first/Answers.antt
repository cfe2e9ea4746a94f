use Rattle.std.proofs.Common.{◌≡◌, None, refl, sym, subst}
use Rattle.std.specs.FinMap.{get}
use Rattle.nm_base.specs.declared.key.Place.TheVariants.{Fire}
use Rattle.nm_base.specs.Key.{key_of}
use Rattle.nm_model.specs.Run.{first_event}
use Rattle.nm_sim.specs.Timelines.{AreFresh, TimelineValue}
use Rattle.nm_sim.proofs.timeline.Timeline.schedule_first.Goals as goal

pub put-requires-clause-fresh : goal.put-requires-clause-fresh
put-requires-clause-fresh g c =
    let fresh = subst (λ o. AreFresh (g.L.EventList.pending c.args.self.now.events) (first_event c.args.source o)) c.in-Some.is c.requires.fresh in
    subst (λ (v : TimelineValue g.row.L.Denot). get (g.L.EventList.pending v.events) (key_of c.in-Some.next.0 (Fire c.args.source) 0) ≡ None) (sym c.self.view_is) (fresh 0 _ refl)
