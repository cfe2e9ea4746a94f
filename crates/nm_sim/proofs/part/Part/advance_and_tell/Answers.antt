use Rattle.std.proofs.Common.{◌≡◌, true, sym, ap, ◌∙◌, subst, arith}
use Rattle.nm_model.specs.EventList.{is_before, least}
use Rattle.nm_sim.specs.Part.{PartValue, Represents}
use Rattle.nm_sim.specs.Records.{Keeping}
use Rattle.nm_sim.specs.Told.{Happens}
use Rattle.nm_sim.proofs.Parts.{due_entry}
use Rattle.nm_sim.proofs.part.Part.advance_and_tell.Goals as goal

pub perform-requires-clause-least : goal.perform-requires-clause-least
perform-requires-clause-least g c =
    let t = c.args.topology.now in
    let z = c.requires.represents in
    let represents = subst (λ (p : PartValue g.row.L.Denot). Represents g.L.EventList.pending t z.0 p z.1) (sym c.self.view_is) z.2 in
    let due : is_before c.args.before (least z.1.pending) ≡ true
    = ap (λ m. is_before c.args.before (least m)) (sym represents.events) ∙ sym c.is_due.ensures ∙ c.if-not-is_due.false in
    let first = due_entry c.args.before (least z.1.pending) due in
    let early = first.2 in (
      z.0,
      z.1,
      first.0,
      c.reserve_event.ensures.same t z.0 z.1 z.2,
      first.1,
      omega (arith, early, c.requires.before),
    )

pub returns-clause-advance : goal.returns-clause-advance
returns-clause-advance g c = λ part s h.
    let t = c.args.topology.now in
    let again = c.reserve_event.ensures.same t part s h in
    let represents = subst (λ (p : PartValue g.row.L.Denot). Represents g.L.EventList.pending t part p s) (sym c.self.view_is) h in (
      c.in_ok-perform.ensures.ok part s again,
      ap (λ m. is_before c.args.before (least m)) (sym represents.events) ∙ sym c.is_due.ensures ∙ c.if-not-is_due.false,
      λ entry first. subst (λ (k : Keeping). Happens t k.wanted s entry c.in_ok-perform.field-0) c.reserve_event.ensures.keeping (c.in_ok-perform.ensures.happened part s again entry first),
    )
