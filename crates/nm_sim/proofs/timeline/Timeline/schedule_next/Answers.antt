use Rattle.std.proofs.Common.{◌≡◌, None, suc, ◌+◌, refl, sym, ap, ◌∙◌, subst, arith}
use Rattle.std.specs.FinMap.{get}
use Rattle.nm_base.specs.declared.key.Place.TheVariants.{Fire}
use Rattle.nm_base.specs.Key.{key_of}
use Rattle.nm_model.specs.Run.{by_source, next_events}
use Rattle.nm_sim.specs.Timelines.{AreFresh, TimelineValue}
use Rattle.nm_sim.proofs.timeline.Timeline.schedule_next.Goals as goal

pub put-requires-clause-fresh : goal.put-requires-clause-fresh
put-requires-clause-fresh g c =
    let fresh = subst (λ o. AreFresh (g.L.EventList.pending c.args.self.now.events) (next_events c.args.number (by_source c.args.source o))) c.in-Some.is c.requires.fresh in
    let none = subst (λ (v : TimelineValue g.row.L.Denot). get (g.L.EventList.pending v.events) (key_of c.in-Some.next.0 (Fire c.args.source) (suc c.args.number)) ≡ None) (sym c.self.view_is) (fresh 0 _ refl) in
    let n : c.args.number + 1 ≡ suc c.args.number = omega arith in
    ap (λ k. get (g.L.EventList.pending c.self.inside.events) (key_of c.in-Some.next.0 (Fire c.args.source) k)) n ∙ none
